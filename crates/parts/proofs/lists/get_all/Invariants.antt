-- `parts::lists::get_all` meets its contract. The first places hold what was read, and the others what they held.
-- Assumes nothing.
use mathlib.Core.Path.{◌≡◌}
use mathlib.Core.List.{◌++◌}
use lib.ListN.{drop}
use Rattle.bigendian.specs.Bytes.{many}
use Rattle.parts.proofs.lists.get_all.Given as goal

abbrev pub invariant-loop-i : goal.invariant-loop-i
invariant-loop-i g l = let part = g.P.Part in l.places ≡ many part.value_at part.WIDTH l.i l.s l.at ++ drop l.i l.initial.places
