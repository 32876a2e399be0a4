-- Encoders and decoders that belong together: what is written is read back, and what is read is written back. The laws are those of a
-- byte and of a number over its width, of one after the other, of a list, and of a record that holds the parts: a record's round trip is the
-- list of its parts.
-- Assumes nothing.
use mathlib.Core.Path.{◌≡◌, refl, sym, ap, ap₂, ◌∙◌}
use Prim.Native.Nat.{ℕ, zero, suc, ◌+◌, ◌*◌, ◌/◌, ◌%◌, ◌≤◌, ◌<◌}
use native.Mathlib.Nat.{add-zero, mul-zero, mul-suc, div-add-mod', div-lt_iff_lt-mul}
use native.Mathlib.Numerals.{add-one}
use native.Mathlib.Omega.{arith}
use mathlib.Core.List.{List, [], ◌∷◌, ◌++◌}
use lib.ListN.{length, take, drop, get_or, length-append}
use lib.Seq.{get_or-take, get_or-drop, take-take, take-append_seam, drop-append_seam, drop-drop, drop-cons, take-add}
use Rattle.bigendian.specs.Bytes.{byte, byte_at, big, number_at, Bytes, room, Below, All, flat, many}

-- n bytes of a list from a place on
unfoldable pub seg : List ℕ → ℕ → ℕ → List ℕ
seg l at n = take n (drop at l)

-- the bytes xs stand in l at i
pub record At (l : List ℕ) (i : ℕ) (xs : List ℕ) : Type 0 where
  pub is : seg l i (length xs) ≡ xs

seg_join : (l : List ℕ) (at n m : ℕ) → seg l at n ++ seg l (at + n) m ≡ seg l at (n + m)
unfolding seg
seg_join l at n m = sym (take-add n m (drop at l) ∙ rw (drop-drop n at l))

seg_one : (l : List ℕ) (at : ℕ) → at < length l → get_or l at 0 ∷ [] ≡ seg l at 1
unfolding seg
seg_one l at h = rw (drop-cons l at 0 h)

pub at_left : {l : List ℕ} {i : ℕ} (xs ys : List ℕ) → At l i (xs ++ ys) → At l i xs
unfolding seg
at_left {l} {i} xs ys h =
    let n : length xs ≤ length (xs ++ ys) = simp length-append (omega arith) in
    record { is = sym (take-take (length xs) (length (xs ++ ys)) (drop i l) n) ∙ rw h.is (take-append_seam xs ys) }

pub at_right : {l : List ℕ} {i : ℕ} (xs ys : List ℕ) → At l i (xs ++ ys) → At l (i + length xs) ys
unfolding seg
at_right {l} {i} xs ys h =
    let e : take (length xs) (drop i l) ++ take (length ys) (drop (length xs) (drop i l)) ≡ xs ++ ys =
    sym (take-add (length xs) (length ys) (drop i l)) ∙ rw (← length-append xs ys) h.is
    in
    let f : take (length xs) (drop i l) ≡ xs = (at_left xs ys h).is in
    record { is = rw (← drop-drop (length xs) i l) (cut (rw f at e)) }
  where
    cut : {us vs : List ℕ} → xs ++ us ≡ xs ++ vs → us ≡ vs
    cut {us} {vs} e = sym (drop-append_seam xs us) ∙ ap (drop (length xs)) e ∙ drop-append_seam xs vs

at_byte : {l : List ℕ} {i : ℕ} (b : ℕ) → At l i (b ∷ []) → get_or l i 0 ≡ b
unfolding seg
at_byte {l} {i} b a =
    sym (ap (λ (j : ℕ). get_or l j 0) (add-zero i)) ∙ sym (get_or-drop i l 0 0) ∙ sym (get_or-take 1 (drop i l) 0 0 (omega arith))
    ∙ ap (λ (t : List ℕ). get_or t 0 0) a.is

-- the encoder f and the decoder g belong together: f writes w bytes of each value of the right shape (S), and g reads such a value back
-- where its numbers fit their bytes (P); and f writes what g read
pub record Coded {A : Type 0} (f : A → List ℕ) (g : List ℕ → ℕ → A) (w : ℕ) (S P : A → Type 0) : Type 0 where
  pub wide : (x : A) → S x → length (f x) ≡ w
  pub back : (l : List ℕ) (i : ℕ) (x : A) → S x → P x → At l i (f x) → g l i ≡ x
  pub again : (l : List ℕ) (i : ℕ) → i + w ≤ length l → Bytes l → f (g l i) ≡ seg l i w

-- no condition
abbrev pub Any : {A : Type 0} → A → Type 0
Any x = Unit

pub any_all : {A : Type 0} (xs : List A) → All Any xs
any_all [] = tt
any_all (x ∷ xs) = (tt, any_all xs)

pub byte_coded : Coded byte byte_at 1 Any Any
byte_coded =
    record {
      wide = λ x s. refl;
      back = λ l i x s p h. at_byte x h;
      again = λ l i h k. seg_one l i (omega arith);
    }

length-big : (w n : ℕ) → length (big w n) ≡ w
unfolding big
length-big zero n = refl
length-big (suc w) n = length-append (big w (n / 256)) (n % 256 ∷ []) ∙ rw (length-big w (n / 256)) (add-one w)

number_back : (w : ℕ) (l : List ℕ) (i n : ℕ) → Below w n → At l i (big w n) → number_at w l i ≡ n
unfolding big number_at
number_back zero l i n h a = omega arith
number_back (suc w) l i n h a =
    let q : n / 256 < room w = (div-lt_iff_lt-mul {k = 256} {x = n} {y = room w} (omega arith)).1 h in
    let e : number_at w l i ≡ n / 256 = number_back w l i (n / 256) q (at_left (big w (n / 256)) (n % 256 ∷ []) a) in
    let b : get_or l (i + w) 0 ≡ n % 256 =
    at_byte (n % 256) (rw (length-big w (n / 256)) at (at_right (big w (n / 256)) (n % 256 ∷ []) a))
    in
    rw (e, b) (div-add-mod' n 256)

number_again : (w : ℕ) (l : List ℕ) (i : ℕ) → i + w ≤ length l → Bytes l → big w (number_at w l i) ≡ seg l i w
unfolding big number_at seg
number_again zero l i h k = refl
number_again (suc w) l i h k =
    let b : get_or l (i + w) 0 < 256 = k (i + w) in
    let q : (number_at w l i * 256 + get_or l (i + w) 0) / 256 ≡ number_at w l i = omega arith in
    let r : (number_at w l i * 256 + get_or l (i + w) 0) % 256 ≡ get_or l (i + w) 0 = omega arith in
    rw (q, r, number_again w l i (omega arith) k, seg_one l (i + w) (omega arith), ← add-one w) (seg_join l i w 1)

pub number_coded : (w : ℕ) → Coded (big w) (number_at w) w Any (Below w)
number_coded w =
    record { wide = λ x s. length-big w x; back = λ l i x s p h. number_back w l i x p h; again = number_again w }

-- one value after another
module _ {A B : Type 0} where
  abbrev pub pair_bytes : (A → List ℕ) → (B → List ℕ) → A × B → List ℕ
  pair_bytes f g x = f x.0 ++ g x.1

  abbrev pub pair_at : (List ℕ → ℕ → A) → ℕ → (List ℕ → ℕ → B) → List ℕ → ℕ → A × B
  pair_at f w g l i = (f l i, g l (i + w))

  abbrev pub Both : (A → Type 0) → (B → Type 0) → A × B → Type 0
  Both P Q x = P x.0 × Q x.1

  pub pair_coded : {f : A → List ℕ} {g : List ℕ → ℕ → A} {v : ℕ} {S P : A → Type 0} {h : B → List ℕ} {k : List ℕ → ℕ → B} {w : ℕ} {T Q : B → Type 0}
      → Coded f g v S P → Coded h k w T Q → Coded (pair_bytes f h) (pair_at g v k) (v + w) (Both S T) (Both P Q)
  pair_coded {f} {g} {v} {S} {P} {h} {k} {w} {T} {Q} c d =
      record {
        wide = λ x s. length-append (f x.0) (h x.1) ∙ rw (c.wide x.0 s.0, d.wide x.1 s.1);
        back = λ l i x s p a.
            ap₂ (λ (y : A) (z : B). (y, z)) (c.back l i x.0 s.0 p.0 (at_left (f x.0) (h x.1) a))
            (d.back l (i + v) x.1 s.1 p.1 (rw (c.wide x.0 s.0) at (at_right (f x.0) (h x.1) a)));
        again = λ l i m b. rw (c.again l i (omega arith) b, d.again l (i + v) (omega arith) b) (seg_join l i v w);
      }

-- a record that holds such values
pub held_coded : {A B : Type 0} {f : A → List ℕ} {g : List ℕ → ℕ → A} {w : ℕ} {S P : A → Type 0} (T Q : B → Type 0) (to : B → A) (from : A → B)
    → ((y : B) → from (to y) ≡ y) → ((x : A) → to (from x) ≡ x) → ((y : B) → T y → S (to y)) → ((y : B) → Q y → P (to y))
    → Coded f g w S P → Coded (λ (y : B). f (to y)) (λ (l : List ℕ) (i : ℕ). from (g l i)) w T Q
held_coded {A} {B} {f} {g} {w} {S} {P} T Q to from whole parts shape fits c =
    record {
      wide = λ y t. c.wide (to y) (shape y t);
      back = λ l i y t q a. ap from (c.back l i (to y) (shape y t) (fits y q) a) ∙ whole y;
      again = λ l i m b. ap f (parts (g l i)) ∙ c.again l i m b;
    }

-- n values of one shape
abbrev pub Each : {A : Type 0} → (A → Type 0) → ℕ → List A → Type 0
Each S n xs = (length xs ≡ n) × All S xs

pub length-many : {A : Type 0} (g : List ℕ → ℕ → A) (w n : ℕ) (l : List ℕ) (at : ℕ) → length (many g w n l at) ≡ n
unfolding many
length-many g w zero l at = refl
length-many g w (suc n) l at = ap suc (length-many g w n l (at + w))

module _ {A : Type 0} {f : A → List ℕ} {g : List ℕ → ℕ → A} {w : ℕ} {S P : A → Type 0} (c : Coded f g w S P) where
  length-flat : (xs : List A) → All S xs → length (flat f xs) ≡ w * length xs
  unfolding flat
  length-flat [] ss = sym (mul-zero w)
  length-flat (x ∷ xs) ss =
      length-append (f x) (flat f xs) ∙ rw (c.wide x ss.0, length-flat xs ss.1, mul-suc w (length xs)) (omega arith)

  many_back : (l : List ℕ) (i : ℕ) (xs : List A) → All S xs → All P xs → At l i (flat f xs) → many g w (length xs) l i ≡ xs
  unfolding flat many
  many_back l i [] ss ps h = refl
  many_back l i (x ∷ xs) ss ps h =
      let e0 : g l i ≡ x = c.back l i x ss.0 ps.0 (at_left (f x) (flat f xs) h) in
      let k : At l (i + w) (flat f xs) = rw (c.wide x ss.0) at (at_right (f x) (flat f xs) h) in
      let e1 : many g w (length xs) l (i + w) ≡ xs = many_back l (i + w) xs ss.1 ps.1 k in
      cc

  many_again : (n : ℕ) (l : List ℕ) (i : ℕ) → i + w * n ≤ length l → Bytes l → flat f (many g w n l i) ≡ seg l i (w * n)
  unfolding flat many seg
  many_again zero l i h k = rw (mul-zero w)
  many_again (suc n) l i h k =
      let e : w * suc n ≡ w + w * n = mul-suc w n ∙ omega arith in
      let h' : i + w + w * n ≤ length l = omega arith in
      rw (c.again l i (omega arith) k, many_again n l (i + w) h' k, e) (seg_join l i w (w * n))

  pub many_coded : (n : ℕ) → Coded (flat f) (many g w n) (w * n) (Each S n) (All P)
  many_coded n =
      record {
        wide = λ xs s. length-flat xs s.1 ∙ rw s.0;
        back = λ l i xs s p h. rw s.0 at (many_back l i xs s.1 p h);
        again = many_again n;
      }
