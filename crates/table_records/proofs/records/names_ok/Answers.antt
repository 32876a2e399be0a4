-- The running details, and beside them the log. Assumes nothing.
use mathlib.Core.Path.{sym}
use Rattle.table_records.proofs.Record.{names_parts}
use Rattle.table_records.proofs.records.names_ok.Goals as goal

pub returns : goal.returns
returns c = rw (c.is_within.ensures, c.are_within.ensures, c.used.ensures) (sym (names_parts c.args.purses c.args.p.now))
