-- Every field is asked, and the log's places by `is_log_unused`; the log has its eight (`zero_parts`).
-- Assumes nothing.
use mathlib.Core.Path.{◌≡◌, sym}
use lib.ListN.{length}
use Rattle.purse.proofs.Lists.{unmapped}
use Rattle.table_records.proofs.Record.{zero_parts}
use borrow.Author.Rules.{rules}
use Rattle.table_records.proofs.records.is_zero.Goals as goal
use Rattle.table_records.proofs.records.is_zero.Goals.{Start}

long : (start : Start) → length start.args.p.log ≡ 8
long start = search (rules, unmapped)

pub returns : goal.returns
returns c = rw (c.is_unused.ensures, c.is_log_unused.ensures) (sym (zero_parts c.args.p (long (goal.at.returns c).Start)))
