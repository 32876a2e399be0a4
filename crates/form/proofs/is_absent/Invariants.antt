-- `form::is_absent` meets its contract: so far the answer is that of the places passed. Assumes nothing.
use mathlib.Core.Path.{◌≡◌}
use Rattle.purse.specs.Details.{absent}
use Rattle.form.proofs.is_absent.Given as goal

abbrev pub invariant-loop-j : goal.invariant-loop-j
invariant-loop-j l = l.ok ≡ absent l.log l.d l.j
