-- The parts asked come to all the rules (Held).
-- Assumes nothing.
use Rattle.table.proofs.Held.{held-asked}
use Rattle.table.proofs.lent_ok.Goals as goal

pub returns : goal.returns
returns c =
    held-asked (record { table = c.args.table.now; desk = c.args.desk.now }) c.told-table (rw (c.records_ok.ensures, c.messages_ok.ensures, c.entries_ok.ensures))
