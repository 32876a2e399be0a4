-- Each turn of the loop holds a place against those before it. Assumes nothing.
use Prim.Native.Nat.{◌≤◌}
use mathlib.Core.Path.{◌≡◌}
use mathlib.Core.Bool.{true}
use lib.ListN.{length, take}
use Rattle.purse.specs.Lists.{distinct}
use Rattle.table_records.proofs.Asked.{Keyed}
use Rattle.table_records.proofs.apart.are_apart.Given as goal

abbrev pub invariant-loop-i : goal.invariant-loop-i
invariant-loop-i g l = (length l.used ≤ 256) × (distinct g.T.PartialEq.eq (take l.i l.used) ≡ true) × Keyed g.T.Placed.key_of l.used l.keys l.i
