-- Bytes put one run after the other, and the loop that puts a list's elements: one law over the element, its encoder and its width.
-- A run of stores after another is one run of both; so is each turn of the loop.
-- Assumes nothing.
use mathlib.Core.Path.{◌≡◌, refl, sym, ap, ◌∙◌}
use Prim.Native.Nat.{ℕ, suc, ◌+◌, ◌*◌, ◌-◌, ◌≤◌, ◌<◌}
use native.Mathlib.Nat.{add-zero, mul-zero, mul-suc, mul-le-mul_left}
use native.Mathlib.Numerals.{add-one}
use native.Mathlib.Omega.{arith}
use mathlib.Core.List.{List, [], ◌∷◌, ◌++◌, append_assoc, append-nil}
use lib.ListN.{length, take, drop, get_or, set, length-append}
use lib.Seq.{take_all, sets, length-sets, sets-eq, take-suc}
use borrow.Author.Tests.{le-leb, lt-leb}
use Rattle.bigendian.specs.Bytes.{put, put_in, flat, put_first}

sets_append : (l : List ℕ) (i : ℕ) (vs ws : List ℕ) → sets (sets l i vs) (i + length vs) ws ≡ sets l i (vs ++ ws)
sets_append l i [] ws = rw add-zero
sets_append l i (v ∷ vs) ws = let e : i + suc (length vs) ≡ suc i + length vs = omega arith in rw e (sets_append (set l i v) (suc i) vs ws)

put_nil : (l : List ℕ) (i : ℕ) → put l i [] ≡ l
unfolding put
put_nil l i = refl

pub length-put : (l : List ℕ) (i : ℕ) (vs : List ℕ) → length (put l i vs) ≡ length l
unfolding put
length-put l i vs = length-sets l i vs

-- what is before, the new bytes, what is behind
pub put_eq : (l : List ℕ) (i : ℕ) (vs : List ℕ) → i + length vs ≤ length l → put l i vs ≡ take i l ++ vs ++ drop (i + length vs) l
unfolding put
put_eq l i vs h = sets-eq vs l i h

-- a run of bytes after another
pub then_put : (l : List ℕ) (i : ℕ) (vs ws : List ℕ) {l₁ l₂ : List ℕ} {j : ℕ} → l₁ ≡ put l i vs → j ≡ i + length vs → l₂ ≡ put l₁ j ws → l₂ ≡ put l i (vs ++ ws)
unfolding put
then_put l i vs ws {l₁} {l₂} {j} p q r = r ∙ rw (p, q) (sets_append l i vs ws)

-- bytes put where there is room for them, and where there is not
module _ (w : ℕ) (l : List ℕ) (i : ℕ) (vs : List ℕ) where
  pub put_there : i + w ≤ length l → put_in w l i vs ≡ put l i vs
  unfolding put_in
  put_there h = rw (le-leb (i + w) (length l) h)

  pub put_nowhere : length l < i + w → put_in w l i vs ≡ l
  unfolding put_in
  put_nowhere h = rw (lt-leb (i + w) (length l) h)

-- a run of bytes after another, where there is room for both
pub then_there : (l : List ℕ) (i : ℕ) (vs ws : List ℕ) (w : ℕ) {l₁ l₂ : List ℕ} {j : ℕ} → l₁ ≡ put l i vs → j ≡ i + length vs → l₂ ≡ put_in w l₁ j ws
    → j + w ≤ length l → l₂ ≡ put l i (vs ++ ws)
then_there l i vs ws w {l₁} {l₂} {j} p q r h =
    let long : length l₁ ≡ length l = ap length p ∙ length-put l i vs in
    then_put l i vs ws p q (r ∙ put_there w l₁ j ws (omega arith))

module _ {A : Type 0} (f : A → List ℕ) where
  flat_append : (xs ys : List A) → flat f (xs ++ ys) ≡ flat f xs ++ flat f ys
  unfolding flat
  flat_append [] ys = refl
  flat_append (x ∷ xs) ys = rw (append_assoc (f x) (flat f xs) (flat f ys)) (ap (λ (t : List ℕ). f x ++ t) (flat_append xs ys))

  flat_one : (x : A) → flat f (x ∷ []) ≡ f x
  unfolding flat
  flat_one x = append-nil (f x)

  flat_more : (l : List A) (i : ℕ) (d : A) → i < length l → flat f (take (i + 1) l) ≡ flat f (take i l) ++ f (get_or l i d)
  flat_more l i d h = rw (add-one i, take-suc l i d h, flat_append (take i l) (get_or l i d ∷ []), flat_one (get_or l i d))

-- each turn of a loop over n values, each w bytes long, has room within theirs
pub turn_room : (w : ℕ) {i n : ℕ} → i < n → w * i + w ≤ w * n
turn_room w {i} {n} h = omega (arith, mul-suc w i, mul-le-mul_left w h)

-- where a loop stands that puts the elements xs, each w bytes long, into the buffer l from the place at on: i of them are put, and the
-- buffer is out
pub record Wrote {A : Type 0} (f : A → List ℕ) (w : ℕ) (l : List ℕ) (at : ℕ) (xs : List A) (out : List ℕ) (i : ℕ) : Type 0 where
  pub wrote : out ≡ put l at (flat f (take i xs))
  pub wide : length (flat f (take i xs)) ≡ w * i

module _ {A : Type 0} (f : A → List ℕ) (w : ℕ) (l : List ℕ) (at : ℕ) (xs : List A) where
  pub wrote_none : Wrote f w l at xs l 0
  unfolding flat
  wrote_none = record { wrote = sym (put_nil l at); wide = sym (mul-zero w) }

  pub wrote_more : (i : ℕ) (x : A) {out out' : List ℕ} → i < length xs → x ≡ get_or xs i x → Wrote f w l at xs out i → length (f x) ≡ w
      → out' ≡ put_in w out (at + w * i) (f x) → at + w * i + w ≤ length l → Wrote f w l at xs out' (i + 1)
  wrote_more i x {out} {out'} h e p k r room =
      let m : flat f (take (i + 1) xs) ≡ flat f (take i xs) ++ f x = flat_more f xs i x h ∙ ap (λ (y : A). flat f (take i xs) ++ f y) (sym e) in
      let next : at + w * i ≡ at + length (flat f (take i xs)) = ap (λ (z : ℕ). at + z) (sym p.wide) in
      record {
        wrote = rw m (then_there l at (flat f (take i xs)) (f x) w p.wrote next r room);
        wide = ap length m ∙ length-append (flat f (take i xs)) (f x) ∙ rw (p.wide, k, add-one i, mul-suc w i) refl;
      }

-- the first of so many places put, or nothing
module _ {A : Type 0} (f : A → List ℕ) (w k : ℕ) (xs : List A) (n : ℕ) (l : List ℕ) (at : ℕ) where
  pub first-put : n ≤ k → w * n ≤ length l - at → put_first f w k xs n l at ≡ put l at (flat f (take n xs))
  unfolding put_first
  first-put h room = rw (le-leb n k h, le-leb (w * n) (length l - at) room)

  -- every place is put
  pub whole-put : length xs ≡ n → n ≤ k → w * n ≤ length l - at → put_first f w k xs n l at ≡ put l at (flat f xs)
  whole-put e h room =
      let all : take n xs ≡ xs = take_all n xs (omega arith) in
      first-put h room ∙ rw all

  pub first_above : k < n → put_first f w k xs n l at ≡ l
  unfolding put_first
  first_above h = rw (lt-leb n k h)

  pub first_nowhere : n ≤ k → length l - at < w * n → put_first f w k xs n l at ≡ l
  unfolding put_first
  first_nowhere h room = rw (le-leb n k h, lt-leb (w * n) (length l - at) room)
