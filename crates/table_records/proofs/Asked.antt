-- Places of which no two are the same, over any element type: why one that stands before settles it, and why none needs to be looked for whose
-- key is not among the keys.
-- Assumes nothing.
use Prim.Native.Nat.{ℕ, ◌+◌, ◌-◌, ◌≤◌, ◌<◌}
use mathlib.Core.Path.{◌≡◌, refl, sym, ◌∙◌, ap}
use mathlib.Core.Bool.{Bool, true, false, ◌&&◌, and-false}
use mathlib.Core.Logic.{⊎_elim}
use mathlib.Core.List.{List, [], ◌∷◌, ◌++◌, map}
use lib.ListN.{length, take, drop, get_or, set, length-set, length-take}
use lib.Seq.{take-suc, take-suc-set, take-add, take_all}
use lib.Dec.{leb, eqb}
use native.Mathlib.Numerals.{add-one}
use native.Mathlib.Omega.{arith}
use borrow.Author.Tests.{eqb-false, le-leb, leb-true}
use Rattle.std.specs.List.{list_any}
use Rattle.purse.specs.Lists.{all, among, distinct}
use Rattle.purse.proofs.Bools.{and_l, and_r, which, refute, nor_l, nor_r}
use Rattle.purse.proofs.Lists.{all-next, distinct_append, distinct-next}
use Rattle.rules.specs.Laid.{places_ok}

-- the same read from the other side
pub among_turned : {A : Type 0} (same : A → A → Bool) → ((x y : A) → same x y ≡ same y x) → (x : A) (l : List A) → list_any (λ (y : A). same y x) l ≡ among same x l
among_turned {A} same turn x [] = refl
among_turned {A} same turn x (y ∷ l) = rw (turn y x, among_turned same turn x l)

module _ {A : Type 0} (same : A → A → Bool) (turn : (x y : A) → same x y ≡ same y x) (l : List A) where
  -- some that are not apart: nor are more
  not_apart : (j n : ℕ) → j ≤ n → n ≤ length l → distinct same (take j l) ≡ false → distinct same (take n l) ≡ false
  not_apart j n g h e =
      let k : n ≡ j + (n - j) = omega arith in
      ap (λ (m : ℕ). distinct same (take m l)) k ∙ (ap (distinct same) (take-add j (n - j) l) ∙ (distinct_append same turn (take j l) (take (n - j) (drop j l)) ∙ rw e))

  -- one that stands before
  pub one_before : (z : A) (i : ℕ) → i < length l → among same (get_or l i z) (take i l) ≡ true → distinct same l ≡ false
  one_before z i g k =
      let d : distinct same (take (i + 1) l) ≡ false = distinct-next same turn l i z g ∙ rw k (and-false (distinct same (take i l))) in
      let all-places : take (length l) l ≡ l = take_all (length l) l (omega arith) in
      rw all-places at (not_apart (i + 1) (length l) (omega arith) (omega arith) d)

-- the keys of the places before i
abbrev pub Keyed : {A : Type 0} → (A → ℕ) → List A → List ℕ → ℕ → Type 0
Keyed key l ks i = (length ks ≡ 256) × (take i ks ≡ map key (take i l))

-- what is the same has the same key, so that no key found says that nothing is the same
module _ {A : Type 0} (same : A → A → Bool) (key : A → ℕ) (alike : (x y : A) → same x y ≡ true → key x ≡ key y) where
  differs : (x y : A) → eqb (key x) (key y) ≡ false → same x y ≡ false
  differs x y e = refute (same x y) (λ (s : same x y ≡ true). eqb-false (key x) (key y) e (alike x y s))

  none_keyed : (x : A) (l : List A) → among eqb (key x) (map key l) ≡ false → among same x l ≡ false
  none_keyed x [] e = refl
  none_keyed x (y ∷ l) e =
      rw (differs x y (nor_l (eqb (key x) (key y)) (among eqb (key x) (map key l)) e))
      (none_keyed x l (nor_r (eqb (key x) (key y)) (among eqb (key x) (map key l)) e))

  -- looked for by its key first
  pub keyed : (x : A) (l : List A) → (among eqb (key x) (map key l) && among same x l) ≡ among same x l
  keyed x l =
      ⊎_elim
      (λ (e : among eqb (key x) (map key l) ≡ true). rw e)
      (λ (e : among eqb (key x) (map key l) ≡ false). rw (e, none_keyed x l e))
      (which (among eqb (key x) (map key l)))

  -- the same, where the keys lie before place i
  pub keyed_before : (x : A) (l : List A) (ks : List ℕ) (i : ℕ) {r : Bool} → Keyed key l ks i → r ≡ (among eqb (key x) (take i ks) && among same x (take i l)) → r ≡ among same x (take i l)
  keyed_before x l ks i h e =
      e ∙ ap (λ (ms : List ℕ). among eqb (key x) ms && among same x (take i l)) h.1 ∙ keyed x (take i l)

  -- all the keys
  pub keys_all : (l : List A) (ks : List ℕ) → length l ≡ 256 → Keyed key l ks 256 → ks ≡ map key l
  keys_all l ks long h =
      sym (take_all 256 ks (omega (arith, h.0))) ∙ (h.1 ∙ ap (map key) (take_all 256 l (omega arith)))

  mapped : (s t : List A) → map key (s ++ t) ≡ map key s ++ map key t
  mapped [] t = refl
  mapped (x ∷ s) t = ap (λ (r : List ℕ). key x ∷ r) (mapped s t)

  pub key_more : (l : List A) (ks : List ℕ) (i k : ℕ) (z : A) → i < length l → i < 256 → Keyed key l ks i → k ≡ key (get_or l i z) → Keyed key l (set ks i k) (i + 1)
  key_more l ks i k z inside g h e = (
    length-set ks i k ∙ h.0,
    rw (add-one i, take-suc-set ks i k (omega (arith, h.0)), take-suc l i z inside)
        (rw (h.1, e) (sym (mapped (take i l) (get_or l i z ∷ [])))),
  )

-- The code's three questions of the places come to the whole: are they laid, each used one beside the records that it names, and the used ones
-- apart. The last is asked by eq, which says what same says.
module _ {A : Type 0} (zero f : A → Bool) (same eq : A → A → Bool) (alike : (x y : A) → eq x y ≡ same x y) (n : ℕ) (l : List A) where
  abbrev pub laid : Bool
  laid = places_ok zero 256 n l

  abbrev pub asked : Bool
  asked = laid && all f (take n l) && distinct same (take n l)

  pub not_laid : {r : Bool} → r ≡ laid → r ≡ false → false ≡ asked
  not_laid e k = sym (rw (sym e ∙ k))

  pub not_beside : {r s : Bool} → r ≡ laid → r ≡ true → s ≡ all f (take n l) → s ≡ false → s ≡ asked
  not_beside e k a b = b ∙ sym (rw (sym e ∙ k, sym a ∙ b))

  pub laid_apart : {r s t : Bool} → r ≡ laid → r ≡ true → s ≡ all f (take n l) → s ≡ true → t ≡ (leb (length (take n l)) 256 && distinct eq (take n l)) → t ≡ asked
  laid_apart e k a b d =
      let few : n ≤ 256 = leb-true n 256 (and_r (eqb (length l) 256) (leb n 256) (and_l (eqb (length l) 256 && leb n 256) (all zero (drop n l)) (sym e ∙ k))) in
      let fits : length (take n l) ≤ 256 = omega (arith, length-take n l) in
      d ∙ rw (sym e ∙ k, sym a ∙ b, le-leb (length (take n l)) 256 fits) (ap (λ (g : A → A → Bool). distinct g (take n l)) (λ i x y. alike x y i))

-- one place more
pub one_more_lem : {A : Type 0} (f : A → Bool) (l : List A) (n : ℕ) (z : A) → n ≤ length l → (i : ℕ) {r : Bool} → i < n → all f (take i l) ≡ true → r ≡ f (get_or l i z) → r ≡ true → all f (take (i + 1) l) ≡ true
one_more_lem f l n z fits i g a k e = all-next f l i z (omega arith) ∙ rw (a, sym k, e)
