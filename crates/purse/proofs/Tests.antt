-- Laws of a list of tests: what it says that none applies, and that testing one by one, top to bottom, finds the first.
-- Assumes nothing.
use Prim.Native.Nat.{ℕ, ◌<◌}
use mathlib.Core.Path.{◌≡◌, refl, ◌∙◌, sym, ap}
use mathlib.Core.Bool.{Bool, true, false, not, cond}
use mathlib.Core.Logic.{⊎_elim}
use mathlib.Core.List.{List, [], ◌∷◌, ◌++◌}
use lib.Dec.{eqb}
use native.Mathlib.Omega.{arith}
use borrow.Author.Tests.{eqb-false, ne_eqb, not-true}
use Rattle.purse.specs.Lists.{all}
use Rattle.purse.specs.Tests.{Test, ◌⇒◌, first, after, walked}
use Rattle.purse.proofs.Bools.{and_l, and_r, which}

-- one test of a ladder, passed
pub passed : (t : Bool) (k n : ℕ) → 0 < k → cond t k n ≡ 0 → (t ≡ false) × (n ≡ 0)
passed true k n h e = let z : ◌≡◌ {A = ℕ} 0 1 = omega arith in (cc, cc)
passed false k n h e = (refl, e)

-- each number of the list is one of the table's, not 0
abbrev pub numbered : List Test → Bool
numbered ts = all (λ (t : Test). not (eqb t.number 0)) ts

after_found : (n : ℕ) (t : Bool) (k : ℕ) → (n ≡ 0 → ⊥) → after n t k ≡ n
after_found n t k h = simp (ne_eqb n 0 h)

walked_found : (n : ℕ) (ts : List Test) → (n ≡ 0 → ⊥) → walked n ts ≡ n
walked_found n [] h = refl
walked_found n (t ∷ ts) h = ap (λ (m : ℕ). walked m ts) (after_found n t.applies t.number h) ∙ walked_found n ts h

-- tests taken one by one find the first that applies
pub walks : (ts : List Test) → numbered ts ≡ true → walked 0 ts ≡ first ts
walks [] e = refl
walks (t ∷ ts) e =
    ⊎_elim
    (λ (a : t.applies ≡ true).
    rw a (walked_found t.number ts (eqb-false _ _ (not-true _ (and_l (not (eqb t.number 0)) (numbered ts) e)))))
    (λ (a : t.applies ≡ false). rw a (walks ts (and_r (not (eqb t.number 0)) (numbered ts) e)))
    (which t.applies)

-- one more test behind others
pub first_more : (ts : List Test) (t : Bool) (k : ℕ) → numbered ts ≡ true → first (ts ++ ((t ⇒ k) ∷ [])) ≡ after (first ts) t k
first_more [] t k e = refl
first_more (s ∷ ts) t k e =
    ⊎_elim
    (λ (a : s.applies ≡ true).
    rw a (sym (after_found s.number t k (eqb-false _ _ (not-true _ (and_l (not (eqb s.number 0)) (numbered ts) e))))))
    (λ (a : s.applies ≡ false). rw a (first_more ts t k (and_r (not (eqb s.number 0)) (numbered ts) e)))
    (which s.applies)

pub more : (ts : List Test) (t : Bool) (k : ℕ) {found n : ℕ} → numbered ts ≡ true → found ≡ first ts → n ≡ after found t k → n ≡ first (ts ++ ((t ⇒ k) ∷ []))
more ts t k e f g = g ∙ ap (λ (m : ℕ). after m t k) f ∙ sym (first_more ts t k e)
