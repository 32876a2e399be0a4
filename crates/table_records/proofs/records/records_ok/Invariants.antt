-- Each turn of the loop asks a purse's record more. Assumes nothing.
use Prim.Native.Nat.{◌≤◌}
use mathlib.Core.Path.{◌≡◌}
use Rattle.purse.specs.Lists.{every}
use Rattle.table_records.proofs.Record.{used_at}
use Rattle.table_records.proofs.records.records_ok.Given as goal

abbrev pub invariant-loop-i : goal.invariant-loop-i
invariant-loop-i l = (l.many ≤ 32) × (l.ok ≡ every l.i (used_at l.purses l.table))
