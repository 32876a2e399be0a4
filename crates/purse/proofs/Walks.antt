-- A list that a loop walks from place 0, over any element type: what one turn of the loop adds to each test of the list, and what the last
-- one comes to.
-- Assumes nothing.
use Prim.Native.Nat.{ℕ, ◌+◌, ◌<◌}
use mathlib.Core.Path.{◌≡◌, ◌∙◌}
use mathlib.Core.Bool.{Bool, true, false, ◌&&◌, and_assoc}
use mathlib.Core.List.{List}
use lib.ListN.{length, take, get_or}
use native.Mathlib.Numerals.{add-one}
use Rattle.purse.specs.Lists.{every, among, distinct}
use Rattle.purse.proofs.Lists.{distinct-next}

-- each of the places before i, and this one
pub more_every : (f : ℕ → Bool) (i : ℕ) (ok₀ : Bool) {ok r : Bool} → ok ≡ (ok₀ && every i f) → r ≡ f i → (ok && r) ≡ (ok₀ && every (i + 1) f)
more_every f i ok₀ e k = rw (e, k, add-one i) (and_assoc ok₀ (every i f) (f i))

module _ {A : Type 0} where
  -- a loop that holds each against those before it: each so far apart
  pub apart_more : (same : A → A → Bool) → ((x y : A) → same x y ≡ same y x) → (l : List A) (i j : ℕ) (z : A) → i < length l → distinct same (take i l) ≡ true → among same (get_or l i z) (take j l) ≡ false → j ≡ i → distinct same (take (i + 1) l) ≡ true
  apart_more same turn l i j z h e k g =
      let a : among same (get_or l i z) (take i l) ≡ false = rw g at k in
      distinct-next same turn l i z h ∙ rw (e, a)
