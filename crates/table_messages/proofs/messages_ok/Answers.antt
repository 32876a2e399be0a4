-- The three questions come to the whole (`Asked`). Assumes nothing.
use Rattle.purse.specs.Details.{same_message}
use Rattle.rules.specs.Laid.{is_zero_message}
use Rattle.table_records.specs.Placed.{message_eq}
use Rattle.table_records.specs.Records.{message_in, messages_ok}
use Rattle.table_records.proofs.Asked.{not_laid, not_beside, laid_apart}
use Rattle.table_messages.proofs.messages_ok.Goals as goal

pub returns-then-not-are_laid : goal.returns-then-not-are_laid
unfolding messages_ok
returns-then-not-are_laid c =
    not_laid is_zero_message (message_in c.args.purses c.args.table.now) same_message _ message_eq c.args.ether.now.count c.args.ether.now.places c.are_laid.ensures c.if-not-are_laid.true

pub returns-then-are_beside : goal.returns-then-are_beside
unfolding messages_ok
returns-then-are_beside c =
    laid_apart is_zero_message (message_in c.args.purses c.args.table.now) same_message _ message_eq c.args.ether.now.count c.args.ether.now.places c.are_laid.ensures c.if-not-are_laid.false
    c.are_beside.ensures c.if-are_beside.true c.are_apart.ensures

pub returns-else-are_beside : goal.returns-else-are_beside
unfolding messages_ok
returns-else-are_beside c =
    not_beside is_zero_message (message_in c.args.purses c.args.table.now) same_message _ message_eq c.args.ether.now.count c.args.ether.now.places c.are_laid.ensures c.if-not-are_laid.false
    c.are_beside.ensures c.if-are_beside.false
