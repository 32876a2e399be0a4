-- A run over the table copied out is the run over the lent table. Assumes nothing.
use mathlib.Core.Path.{◌≡◌, refl, sym, ap, subst, ◌∙◌}
use Prim.Native.Nat.{ℕ}
use mathlib.Core.Bool.{false}
use mathlib.Core.Logic.{inl, inr}
use mathlib.Core.List.{[], ◌∷◌, List}
use lib.Dec.{T, eqb}
use lib.ListN.{length}
use Rattle.purse.specs.declared.Purse.{Purse}
use Rattle.purse.proofs.Bools.{which, refute}
use Rattle.desk.specs.declared.Desk.{Desk}
use Rattle.desk.specs.declared.Held.{Held}
use Rattle.desk.specs.declared.Answered.{Answered}
use Rattle.rules.specs.Laid.{held_ok, held_step, held_run, held_answers}
use Rattle.walk_table.specs.Lent.{held, copied_of}
use Rattle.walk_store.specs.Stored.{stored_of}
use Rattle.walk_table.proofs.Whole.{long_is, read_whole}

-- ---- at a table that breaks the rules every event is refused with 2, and nothing changes
bad_step : (h : Held) (l : List ℕ) → held_ok h ≡ false → held_step h l ≡ record { answer = 2; held = h }
unfolding held_step
bad_step h l p = rw p

bad_run : (h : Held) (ps : List (List ℕ)) → held_ok h ≡ false → held_run h ps ≡ h
bad_run h [] p = refl
bad_run h (l ∷ ps) p = ap (λ (a : Answered). held_run a.held ps) (bad_step h l p) ∙ bad_run h ps p

answers_blind : (k m : Held) (ps : List (List ℕ)) → held_ok k ≡ false → held_ok m ≡ false → held_answers k ps ≡ held_answers m ps
answers_blind k m [] p r = refl
answers_blind k m (l ∷ ps) p r =
    ap (λ (a : Answered). a.answer ∷ held_answers a.held ps) (bad_step k l p) ∙ ap (λ (zs : List ℕ). 2 ∷ zs) (answers_blind k m ps p r) ∙ sym (ap (λ (a : Answered). a.answer ∷ held_answers a.held ps) (bad_step m l r))

other_bad : (l : List Purse) (d : Desk) → eqb (length l) 32 ≡ false → held_ok (held l d) ≡ false
other_bad l d p = refute (held_ok (held l d)) (λ w. subst T (sym (ap (λ (n : ℕ). eqb n 32) (long_is l d w)) ∙ p) tt)

-- ---- what is left of the bench
pub run_lent : (n : ℕ) (l : List Purse) (d : Desk) (ps : List (List ℕ)) → (stored_of l d (record { answer = n; held = held_run (held (copied_of l) d) ps })).held ≡ held_run (held l d) ps
unfolding copied_of stored_of
run_lent n l d ps = elim (which (eqb (length l) 32)) [ inl p ↦ rw p | inr p ↦ rw p (sym (bad_run (held l d) ps (other_bad l d p))) ]

pub answers_lent : (l : List Purse) (d : Desk) (ps : List (List ℕ)) → held_answers (held (copied_of l) d) ps ≡ held_answers (held l d) ps
answers_lent l d ps = read_whole (λ (h : Held). held_answers h ps) l d (λ k m. answers_blind k m ps)
