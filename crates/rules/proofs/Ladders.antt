-- The first of a list of tests: a number of the list, or 0.
-- Assumes nothing.
use Prim.Native.Nat.{ℕ, ◌≤◌}
use mathlib.Core.Path.{◌≡◌, refl}
use mathlib.Core.Bool.{Bool, true, false, not, cond}
use mathlib.Core.Logic.{⊎_elim}
use mathlib.Core.List.{List, [], ◌∷◌, ◌++◌}
use lib.Dec.{leb, eqb}
use native.Mathlib.Omega.{arith}
use borrow.Author.Tests.{leb-true, eqb-false, ne_eqb, not-true}
use Rattle.purse.specs.Lists.{all}
use Rattle.purse.specs.Tests.{Test, first}
use Rattle.purse.proofs.Bools.{and_l, and_r, which}

-- what holds of 0 and of each number holds of the first
pub first_is : (f : ℕ → Bool) (ts : List Test) → f 0 ≡ true → all (λ (t : Test). f t.number) ts ≡ true → f (first ts) ≡ true
first_is f [] z h = z
first_is f (t ∷ ts) z h =
    ⊎_elim
    (λ (e : t.applies ≡ true). rw e (and_l (f t.number) (all (λ (t : Test). f t.number) ts) h))
    (λ (e : t.applies ≡ false). rw e (first_is f ts z (and_r (f t.number) (all (λ (t : Test). f t.number) ts) h)))
    (which t.applies)

-- none of the numbers is k
pub first_not : (k : ℕ) (ts : List Test) → eqb 0 k ≡ false → all (λ (t : Test). not (eqb t.number k)) ts ≡ true → first ts ≡ k → ⊥
first_not k ts z h = eqb-false _ _ (not-true _ (first_is (λ (n : ℕ). not (eqb n k)) ts (rw z) h))

-- each number is a refusal
pub first_high : (ts : List Test) → all (λ (t : Test). leb 2 t.number) ts ≡ true → (first ts ≡ 0 → ⊥) → 2 ≤ first ts
first_high [] h n = absurd (n refl)
first_high (t ∷ ts) h n =
    ⊎_elim
    (λ (e : t.applies ≡ true). rw e (leb-true _ _ (and_l (leb 2 t.number) (all (λ (t : Test). leb 2 t.number) ts) h)))
    (λ (e : t.applies ≡ false). rw e (first_high ts (and_r (leb 2 t.number) (all (λ (t : Test). leb 2 t.number) ts) h) (rw e at n)))
    (which t.applies)

-- two lists, one behind the other
pub first-append : (ts us : List Test) → all (λ (t : Test). leb 2 t.number) ts ≡ true → first (ts ++ us) ≡ cond (eqb (first ts) 0) (first us) (first ts)
first-append [] us h = refl
first-append (t ∷ ts) us h =
    let l : 2 ≤ t.number = leb-true _ _ (and_l (leb 2 t.number) (all (λ (t : Test). leb 2 t.number) ts) h) in
    ⊎_elim
    (λ (e : t.applies ≡ true). rw (e, ne_eqb t.number 0 (λ (z : t.number ≡ 0). omega arith)))
    (λ (e : t.applies ≡ false). rw e (first-append ts us (and_r (leb 2 t.number) (all (λ (t : Test). leb 2 t.number) ts) h)))
    (which t.applies)
