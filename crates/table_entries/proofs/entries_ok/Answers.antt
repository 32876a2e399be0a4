-- The three questions come to the whole (`Asked`). Assumes nothing.
use Rattle.desk.specs.Desk.{same_entry}
use Rattle.rules.specs.Laid.{is_zero_entry}
use Rattle.table_records.specs.Placed.{entry_eq}
use Rattle.table_records.specs.Records.{entry_in, entries_ok}
use Rattle.table_records.proofs.Asked.{not_laid, not_beside, laid_apart}
use Rattle.table_entries.proofs.entries_ok.Goals as goal

pub returns-then-not-are_laid : goal.returns-then-not-are_laid
unfolding entries_ok
returns-then-not-are_laid c =
    not_laid is_zero_entry (entry_in c.args.purses c.args.table.now) same_entry _ entry_eq c.args.archive.now.count c.args.archive.now.places c.are_laid.ensures c.if-not-are_laid.true

pub returns-then-are_beside : goal.returns-then-are_beside
unfolding entries_ok
returns-then-are_beside c =
    laid_apart is_zero_entry (entry_in c.args.purses c.args.table.now) same_entry _ entry_eq c.args.archive.now.count c.args.archive.now.places c.are_laid.ensures c.if-not-are_laid.false
    c.are_beside.ensures c.if-are_beside.true c.are_apart.ensures

pub returns-else-are_beside : goal.returns-else-are_beside
unfolding entries_ok
returns-else-are_beside c =
    not_beside is_zero_entry (entry_in c.args.purses c.args.table.now) same_entry _ entry_eq c.args.archive.now.count c.args.archive.now.places c.are_laid.ensures c.if-not-are_laid.false
    c.are_beside.ensures c.if-are_beside.false
