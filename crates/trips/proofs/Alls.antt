-- What each of a list has, gathered one by one; then the first of them have it, and all.
-- Assumes nothing.
use Prim.Native.Nat.{ℕ, zero, suc, ◌+◌, ◌<◌}
use native.Mathlib.Numerals.{add-one}
use native.Mathlib.Omega.{arith}
use mathlib.Core.List.{List, [], ◌∷◌}
use lib.ListN.{length, take, get_or}
use Rattle.bigendian.specs.Bytes.{All}

module _ {A : Type 0} (P : A → Type 0) (d : A) where
  more : (xs : List A) (i : ℕ) → i < length xs → All P (take i xs) → P (get_or xs i d) → All P (take (suc i) xs)
  more [] i h a p = absurd (omega arith)
  more (x ∷ xs) zero h a p = (p, tt)
  more (x ∷ xs) (suc i) h a p = (a.0, more xs i (omega arith) a.1 p)

  pub all_more : (xs : List A) (i : ℕ) → i < length xs → All P (take i xs) → P (get_or xs i d) → All P (take (i + 1) xs)
  all_more xs i h a p = rw (add-one i) (more xs i h a p)

pub all_first : {A : Type 0} (P : A → Type 0) (n : ℕ) (xs : List A) → All P xs → All P (take n xs)
all_first P zero xs a = tt
all_first P (suc n) [] a = tt
all_first P (suc n) (x ∷ xs) a = (a.0, all_first P n xs a.1)
