-- An event leaves one result, and a run one result and one content of the answers: two that both meet the contract are equal, by the law of
-- one equation. Assumes nothing.
use Prim.Native.Nat.{ℕ}
use mathlib.Core.Path.{◌≡◌}
use mathlib.Core.List.{List}
use Rattle.purse.proofs.Unique.{one}
use Rattle.desk.specs.declared.Held.{Held}
use Rattle.desk.specs.declared.Answered.{Answered}
use Rattle.rules.specs.Laid.{held_step}
use Rattle.bench.specs.declared.Ran.{Ran}
use Rattle.bench.specs.Runs.{run_of}

pub event_one : (held : Held) (event : List ℕ) (r s : Answered) → r ≡ held_step held event → s ≡ held_step held event → r ≡ s
event_one held event r s = one

pub run_one : (held : Held) (input answers : List ℕ) (r s : Ran) (a b : List ℕ)
    → (r.taken ≡ (run_of held input answers).taken)
    × (r.held ≡ (run_of held input answers).held)
    × (a ≡ (run_of held input answers).answers)
    → (s.taken ≡ (run_of held input answers).taken)
    × (s.held ≡ (run_of held input answers).held)
    × (b ≡ (run_of held input answers).answers)
    → (r ≡ s) × (a ≡ b)
run_one held input answers r s a b e f =
    (λ i. record { taken = one e.0 f.0 i; held = one e.1 f.1 i }, one e.2 f.2)
