-- A loop that reads values of one width and lays them in places from 0 on: one law over the element, its decoder and its width.
-- Assumes nothing.
use mathlib.Core.Path.{◌≡◌, sym, ap, ◌∙◌}
use Prim.Native.Nat.{ℕ, zero, suc, ◌+◌, ◌*◌, ◌-◌, ◌≤◌, ◌<◌}
use native.Mathlib.Nat.{add-zero, mul-zero, mul-suc}
use native.Mathlib.Numerals.{add-one}
use native.Mathlib.Omega.{arith}
use mathlib.Core.List.{List, [], ◌∷◌, ◌++◌, append_assoc, append-nil}
use lib.ListN.{length, drop, get_or, set, replicate, length-replicate}
use Rattle.std.proofs.lemmas.List.{drop-replicate}
use borrow.Author.Tests.{le-leb, lt-leb}
use lib.Seq.{set_at, drop-cons, drop-length}
use Rattle.bigendian.specs.Bytes.{many, get_first}
use Rattle.bigendian.proofs.Coded.{length-many}

-- where a loop stands that reads values from the place at on into k places, z at each unused one: i of them are read, the places are xs,
-- and the next value stands at from
pub record Filled {A : Type 0} (g : List ℕ → ℕ → A) (w : ℕ) (l : List ℕ) (at k : ℕ) (z : A) (xs : List A) (i from : ℕ) : Type 0 where
  pub next : from ≡ at + w * i
  pub filled : xs ≡ many g w i l at ++ replicate (k - i) z

module _ {A : Type 0} (g : List ℕ → ℕ → A) (w : ℕ) where
  many_more : (n : ℕ) (l : List ℕ) (at : ℕ) → many g w (n + 1) l at ≡ many g w n l at ++ (g l (at + w * n) ∷ [])
  unfolding many
  many_more zero l at = rw (mul-zero w, add-zero at)
  many_more (suc n) l at =
      let e : suc n + 1 ≡ suc (n + 1) = omega arith in
      let e2 : at + w * suc n ≡ at + w + w * n = rw (mul-suc w n) (omega arith) in
      rw (e, e2) (ap (λ (t : List A). g l at ∷ t) (many_more n l (at + w)))

  module _ (l : List ℕ) (at k : ℕ) (z : A) where
    pub filled_none : {y : A} → y ≡ z → Filled g w l at k z (replicate k y) 0 at
    unfolding many
    filled_none e =
        let n : k - 0 ≡ k = omega arith in
        record { next = rw (mul-zero w) (sym (add-zero at)); filled = rw (e, n) }

    pub filled_more : (i : ℕ) {xs : List A} {from : ℕ} {v : A} → i < k → Filled g w l at k z xs i from → v ≡ g l from
        → Filled g w l at k z (set xs i v) (i + 1) (from + w)
    filled_more i {xs} {from} {v} h p q =
        let e : k - i ≡ suc (k - (i + 1)) = omega arith in
        let e2 : w * (i + 1) ≡ w * i + w = rw (add-one i, mul-suc w i) in
        record {
          next = rw e2 (omega (arith, p.next));
          filled =
              rw (p.filled, e, q, p.next, many_more i l at)
              (set_at (many g w i l at) z (replicate (k - (i + 1)) z) (g l (at + w * i)) i (length-many g w i l at)
              ∙ sym (append_assoc (many g w i l at) (g l (at + w * i) ∷ []) (replicate (k - (i + 1)) z)));
        }

    -- the loop's end: n values, and z at the other places
    pub filled_all : (n : ℕ) {xs : List A} {i from : ℕ} → i ≡ n → Filled g w l at k z xs i from → xs ≡ many g w n l at ++ replicate (k - n) z
    filled_all n e p = rw (← e) p.filled

-- the loop that writes such values over the places xs: one more, and how it ends
module _ {A : Type 0} (g : List ℕ → ℕ → A) (w : ℕ) (l : List ℕ) (at : ℕ) (xs : List A) where
  pub got_more : (i : ℕ) {ys : List A} {v : A} → i < length xs → ys ≡ many g w i l at ++ drop i xs → v ≡ g l (at + w * i)
      → set ys i v ≡ many g w (i + 1) l at ++ drop (i + 1) xs
  got_more i {ys} {v} h p q =
      rw (p, q, drop-cons xs i v h, many_more g w i l at, add-one i)
      (set_at (many g w i l at) (get_or xs i v) (drop (suc i) xs) (g l (at + w * i)) i (length-many g w i l at)
      ∙ sym (append_assoc (many g w i l at) (g l (at + w * i) ∷ []) (drop (suc i) xs)))

  pub first_got : (n : ℕ) → n ≤ length xs → w * n ≤ length l - at → get_first g w xs n l at ≡ many g w n l at ++ drop n xs
  unfolding get_first
  first_got n h room = rw (le-leb n (length xs) h, le-leb (w * n) (length l - at) room)

  -- every place is written
  pub first_whole : (n : ℕ) → length xs ≡ n → w * n ≤ length l - at → get_first g w xs n l at ≡ many g w n l at
  first_whole n e room = first_got n (omega arith) room ∙ rw (← e, drop-length xs) (append-nil (many g w (length xs) l at))

  pub first_left : (n : ℕ) → length xs < n → get_first g w xs n l at ≡ xs
  unfolding get_first
  first_left n h = rw (lt-leb n (length xs) h)

  pub first_missing : (n : ℕ) → n ≤ length xs → length l - at < w * n → get_first g w xs n l at ≡ xs
  unfolding get_first
  first_missing n h room = rw (le-leb n (length xs) h, lt-leb (w * n) (length l - at) room)

-- over places that are all z: n values, and z behind them
module _ {A : Type 0} (g : List ℕ → ℕ → A) (w k : ℕ) (z : A) where
  pub got_over : (l : List ℕ) (at n : ℕ) {y : A} → y ≡ z → n ≤ k → w * n ≤ length l - at
      → get_first g w (replicate k y) n l at ≡ many g w n l at ++ replicate (k - n) z
  got_over l at n e h room =
      let fits : n ≤ length (replicate k z) = rw (length-replicate k z) h in
      rw e (first_got g w l at (replicate k z) n fits room ∙ ap (λ (ys : List A). many g w n l at ++ ys) (drop-replicate n k z))
