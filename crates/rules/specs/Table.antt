-- "A table is well formed when all of these hold": the bullets of document 01, in its order.
use Rattle.std.specs.Prelude.{ℕ, Bool, ◌&&◌, ◌||◌, not, ◌++◌, length, ltb, leb, eqb}
use Rattle.purse.specs.declared.Name.{Name}
use Rattle.purse.specs.declared.Details.{Details}
use Rattle.purse.specs.declared.Message.{Message}
use Rattle.purse.specs.Lists.{every, all, distinct}
use Rattle.purse.specs.Details.{request, value, acknowledge, same_details, same_message, named, entry_ok}
use Rattle.purse.specs.Purse.{epr, epv, well_formed}
use Rattle.desk.specs.declared.Entry.{Entry}
use Rattle.rules.specs.Bench.{Bench, called, purse_at, running, kept, logged_by, is_at}

-- "1 to 32 purses", "at most 256 messages and 256 archive entries"
unfoldable pub counts_ok : Bench → Bool
counts_ok b =
    leb 1 (length b.purses) && leb (length b.purses) 32 && leb (length b.messages) 256
    && leb (length b.archive) 256

-- both names are purses of the table
unfoldable pub in_table : Bench → Details → Bool
in_table b d = ltb d.payer.0 (length b.purses) && ltb d.payee.0 (length b.purses)

-- "at least 1 and below its next one"
abbrev pub used_by : Bench → Name → ℕ → Bool
used_by b n s = leb 1 s && ltb s (purse_at b n.0).next.0

-- the rules about one purse alone, which are the card's; its details and log entries name purses of the table
unfoldable pub purse_ok : Bench → ℕ → Bool
purse_ok b n =
    well_formed (called n) (purse_at b n) && all (in_table b) (running (purse_at b n) ++ kept (purse_at b n))

-- "each message kind 1 to 3"; messages "name two different purses of the table and a legal amount"; "In every message the payee's
-- number is so; in a value or acknowledge message the payer's too"
unfoldable pub message_ok : Bench → Message → Bool
message_ok b m =
    leb request m.kind && leb m.kind acknowledge && named m.details && in_table b m.details
    && used_by b m.details.payee m.details.payeeseq.0
    && (eqb m.kind request || used_by b m.details.payer m.details.payerseq.0)

-- "an archive entry gives the purse that logged it, likewise": that purse is its payer or payee, with a number it has used
unfoldable pub archive_ok : Bench → Entry → Bool
archive_ok b e = in_table b e.details && entry_ok e.by (purse_at b e.by.0).next e.details

-- "No purse has the same details twice among its running details, its log and its archive entries"
unfoldable pub once_ok : Bench → ℕ → Bool
once_ok b n = distinct same_details (running (purse_at b n) ++ logged_by b n)

-- "No value or acknowledge stands for the details of a payer in epr, no acknowledge for those of a payee in epv"
unfoldable pub clear_ok : Bench → Message → Bool
clear_ok b m =
    not (leb value m.kind && is_at epr (purse_at b m.details.payer.0) m.details)
    && not (eqb m.kind acknowledge && is_at epv (purse_at b m.details.payee.0) m.details)

unfoldable pub table_ok : Bench → Bool
table_ok b =
    counts_ok b
    && every (length b.purses) (purse_ok b)
    && all (message_ok b) b.messages
    && all (archive_ok b) b.archive
    && every (length b.purses) (once_ok b)
    && distinct same_message b.messages
    && all (clear_ok b) b.messages
