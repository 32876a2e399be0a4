-- Each turn of the loop asks a place more. Assumes nothing.
use mathlib.Core.Path.{◌≡◌}
use lib.ListN.{take}
use Rattle.purse.specs.Lists.{all}
use Rattle.table_records.proofs.apart.are_unused.Given as goal

abbrev pub invariant-loop-x : goal.invariant-loop-x
invariant-loop-x g l = l.ok ≡ all (g.T.Placed.is_zero) (take l.x-index l.places)
