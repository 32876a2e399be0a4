-- A space and a number, one behind the other.
-- Assumes nothing.
use Rattle.lines.proofs.Puts.{then}
use Rattle.lines.proofs.text.Text.field.Goals as goal

pub returns-clause-added : goal.returns-clause-added
returns-clause-added c = then c.bytes.ensures c.number.ensures.added
