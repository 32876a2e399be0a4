-- The bench's entries leave one result and one content of each lent part: two that both meet a contract are equal, by the laws of one, three
-- and four equations. Assumes nothing.
use Prim.Native.Nat.{ℕ}
use mathlib.Core.Path.{◌≡◌}
use mathlib.Core.List.{List}
use Rattle.purse.specs.declared.Purse.{Purse}
use Rattle.purse.proofs.Unique.{one, three, four}
use Rattle.desk.specs.declared.Desk.{Desk}
use Rattle.desk.specs.declared.Figure.{Figure}
use Rattle.rules.specs.Laid.{held_step, held_opening, held_claims}
use Rattle.bench.specs.Runs.{run_of}
use Rattle.walk_table.specs.Lent.{held}

pub prs_event_one : (table : List Purse) (desk : Desk) (event : List ℕ) (r s : ℕ) (t u : List Purse) (d e : Desk)
    → (r ≡ (held_step (held table desk) event).answer)
    × (t ≡ (held_step (held table desk) event).held.table)
    × (d ≡ (held_step (held table desk) event).held.desk)
    → (s ≡ (held_step (held table desk) event).answer)
    × (u ≡ (held_step (held table desk) event).held.table)
    × (e ≡ (held_step (held table desk) event).held.desk)
    → (r ≡ s) × (t ≡ u) × (d ≡ e)
prs_event_one table desk event r s t u d e = three

pub prs_opening_one : (table : List Purse) (desk : Desk) (balances : List ℕ) (r s : ℕ) (t u : List Purse) (d e : Desk)
    → (r ≡ (held_opening (held table desk) balances).answer)
    × (t ≡ (held_opening (held table desk) balances).held.table)
    × (d ≡ (held_opening (held table desk) balances).held.desk)
    → (s ≡ (held_opening (held table desk) balances).answer)
    × (u ≡ (held_opening (held table desk) balances).held.table)
    × (e ≡ (held_opening (held table desk) balances).held.desk)
    → (r ≡ s) × (t ≡ u) × (d ≡ e)
prs_opening_one table desk balances r s t u d e = three

pub prs_claims_one : (table : List Purse) (desk : Desk) (r s : Figure) → r ≡ held_claims (held table desk) → s ≡ held_claims (held table desk) → r ≡ s
prs_claims_one table desk r s = one

pub prs_run_one : (table : List Purse) (desk : Desk) (list answers : List ℕ) (r s : ℕ) (t u : List Purse) (d e : Desk) (a b : List ℕ)
    → (r ≡ (run_of (held table desk) list answers).taken)
    × (t ≡ (run_of (held table desk) list answers).held.table)
    × (d ≡ (run_of (held table desk) list answers).held.desk)
    × (a ≡ (run_of (held table desk) list answers).answers)
    → (s ≡ (run_of (held table desk) list answers).taken)
    × (u ≡ (run_of (held table desk) list answers).held.table)
    × (e ≡ (run_of (held table desk) list answers).held.desk)
    × (b ≡ (run_of (held table desk) list answers).answers)
    → (r ≡ s) × (t ≡ u) × (d ≡ e) × (a ≡ b)
prs_run_one table desk list answers r s t u d e a b = four
