-- A list written over another, member by member from the first on: what a loop that stores one record after the other has made of the
-- list so far. By induction on how many are written. Assumes nothing.
use mathlib.Core.Path.{◌≡◌, refl, sym, ap}
use Prim.Native.Nat.{ℕ, zero, suc, ◌+◌, ◌<◌}
use native.Mathlib.Nat.{not-suc-le-zero, le_of_suc-le-suc, suc_inj, suc-ne-zero}
use native.Mathlib.Numerals.{add-one}
use mathlib.Core.List.{List, [], ◌∷◌}
use lib.ListN.{length, get_or, set}

-- the first i of xs, then ys from i on
abbrev pub over : {A : Type 0} → ℕ → List A → List A → List A
over zero xs ys = ys
over (suc i) [] ys = ys
over (suc i) (x ∷ xs) [] = []
over (suc i) (x ∷ xs) (y ∷ ys) = x ∷ over i xs ys

-- its length is that of the list written over
pub over_length : {A : Type 0} (i : ℕ) (xs ys : List A) → length (over i xs ys) ≡ length ys
over_length zero xs ys = refl
over_length (suc i) [] ys = refl
over_length (suc i) (x ∷ xs) [] = refl
over_length (suc i) (x ∷ xs) (y ∷ ys) = ap suc (over_length i xs ys)

over_more : {A : Type 0} (i : ℕ) (xs ys : List A) (d : A) → i < length xs → i < length ys → set (over i xs ys) i (get_or xs i d) ≡ over (suc i) xs ys
over_more i [] ys d h k = absurd (not-suc-le-zero h)
over_more i (x ∷ xs) [] d h k = absurd (not-suc-le-zero k)
over_more zero (x ∷ xs) (y ∷ ys) d h k = refl
over_more (suc i) (x ∷ xs) (y ∷ ys) d h k = ap (λ l. x ∷ l) (over_more i xs ys d (le_of_suc-le-suc h) (le_of_suc-le-suc k))

-- the next member is stored
pub over_next : {A : Type 0} (i : ℕ) (xs ys : List A) (d : A) → i < length xs → i < length ys → set (over i xs ys) i (get_or xs i d) ≡ over (i + 1) xs ys
over_next i xs ys d h k = rw (add-one i) (over_more i xs ys d h k)

-- all are stored
pub over_all : {A : Type 0} (xs ys : List A) → length xs ≡ length ys → over (length xs) xs ys ≡ xs
over_all [] [] e = refl
over_all [] (y ∷ ys) e = absurd (suc-ne-zero _ (sym e))
over_all (x ∷ xs) [] e = absurd (suc-ne-zero _ e)
over_all (x ∷ xs) (y ∷ ys) e = ap (λ l. x ∷ l) (over_all xs ys (suc_inj e))
