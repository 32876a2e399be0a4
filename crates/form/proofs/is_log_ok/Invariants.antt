-- `form::is_log_ok` meets its contract: each turn of the loop asks a used place more. Assumes nothing.
use Prim.Native.Nat.{◌≤◌}
use mathlib.Core.Path.{◌≡◌}
use Rattle.purse.specs.Lists.{every}
use Rattle.form.specs.Form.{logging}
use Rattle.form.proofs.Parts.{used_at}
use Rattle.form.proofs.is_log_ok.Given as goal

abbrev pub invariant-loop-i : goal.invariant-loop-i
invariant-loop-i l = (l.used ≤ 8) × (l.ok ≡ every l.i (used_at l.own (logging l.log l.logged l.running l.next)))
