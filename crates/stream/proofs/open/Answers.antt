-- The balances that the opening bytes give.
-- Assumes nothing.
use Rattle.stream.proofs.Opened.{opened}
use Rattle.stream.proofs.open.Goals as goal

pub returns : goal.returns
returns g c =
    opened _ _ _ c.read_opening-opening.result _ c.in_ok-got.ensures.read c.read_opening-opening.ensures.value (rw c.nothing.ensures at c.opening.ensures)
