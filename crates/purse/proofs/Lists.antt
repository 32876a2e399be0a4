-- Laws of lists, over any element type: each of a number of places, each member, some member, no two the same; by the places, and of
-- lists one after the other.
-- Assumes nothing.
use Prim.Native.Nat.{ℕ, zero, suc, ◌+◌, ◌≤◌, ◌<◌, min}
use mathlib.Core.Path.{◌≡◌, refl, ◌∙◌, sym, ap}
use mathlib.Core.Bool.{Bool, true, false, ◌&&◌, ◌||◌, not, and-true, and-false, and_assoc, or-false, or_assoc}
use mathlib.Core.Logic.{⊎_elim}
use mathlib.Core.List.{List, [], ◌∷◌, ◌++◌, map}
use lib.ListN.{length, take, get_or, length-map}
use lib.Seq.{take-suc, take_all, length-take-le, get_or-take}
use lib.Dec.{ltb, leb}
use native.Mathlib.Numerals.{add-one}
use native.Mathlib.Omega.{arith}
use borrow.Author.Tests.{ltb-true, ltb-false, leb-true, leb-false}
use Rattle.purse.specs.Lists.{every, all, among, distinct}
use Rattle.purse.proofs.Bools.{and_l, and_r, and_i, or_inr, which}

pub every_at : (f : ℕ → Bool) (n i : ℕ) → every n f ≡ true → i < n → f i ≡ true
every_at f zero i e h = absurd (omega arith)
every_at f (suc n) i e h =
    ⊎_elim
    (λ (w : ltb i n ≡ true). every_at f n i (and_l (every n f) (f n) e) (ltb-true i n w))
    (λ (w : ltb i n ≡ false).
    let g : n ≤ i = ltb-false i n w in
    let k : n ≡ i = omega arith in
    rw k at (and_r (every n f) (f n) e))
    (which (ltb i n))

pub every-all : (f : ℕ → Bool) (n : ℕ) → ((i : ℕ) → i < n → f i ≡ true) → every n f ≡ true
every-all f zero h = refl
every-all f (suc n) h = and_i (every-all f n (λ i g. h i (omega arith))) (h n (omega arith))

pub unmapped : (X Y : Type 0) (f : X → Y) (l : List X) (n : ℕ) → length (map f l) ≡ n → length l ≡ n
unmapped X Y f l n e = sym (length-map l f) ∙ e

pub take-map : {A B : Type 0} (f : A → B) (n : ℕ) (l : List A) → take n (map f l) ≡ map f (take n l)
take-map f zero l = refl
take-map f (suc n) [] = refl
take-map {A} {B} f (suc n) (x ∷ l) = ap (λ (r : List B). f x ∷ r) (take-map f n l)

pub all_map : {A B : Type 0} (f : B → Bool) (g : A → B) (l : List A) → all f (map g l) ≡ all (λ (x : A). f (g x)) l
all_map f g [] = refl
all_map f g (x ∷ l) = ap (λ (t : Bool). f (g x) && t) (all_map f g l)

module _ {A : Type 0} where
  -- at a place of the list it is no matter what stands past its end
  pub at_any : (l : List A) (i : ℕ) (y z : A) → i < length l → get_or l i y ≡ get_or l i z
  at_any [] i y z h = absurd (omega arith)
  at_any (x ∷ l) zero y z h = refl
  at_any (x ∷ l) (suc i) y z h = at_any l i y z (omega arith)

  -- one more at the end: read there, and anywhere else
  pub read_end : (l : List A) (x z : A) → get_or (l ++ (x ∷ [])) (length l) z ≡ x
  read_end [] x z = refl
  read_end (y ∷ l) x z = read_end l x z

  pub read_before : (l : List A) (x z : A) (i : ℕ) → (i ≡ length l → ⊥) → get_or (l ++ (x ∷ [])) i z ≡ get_or l i z
  read_before [] x z zero other = absurd (other refl)
  read_before [] x z (suc i) other = refl
  read_before (y ∷ l) x z zero other = refl
  read_before (y ∷ l) x z (suc i) other = read_before l x z i (λ (e : i ≡ length l). other (ap suc e))

  -- as many as there are, at most
  pub take_least : (n m : ℕ) (l : List A) → length l ≤ m → take (min n m) l ≡ take n l
  take_least n m l h =
      ⊎_elim
      (λ (e : leb n m ≡ true). let s : min n m ≡ n = omega (arith, leb-true n m e) in rw s)
      (λ (e : leb n m ≡ false).
      let s : min n m ≡ m = omega (arith, leb-false n m e) in
      let k : length l ≤ n = omega (arith, leb-false n m e) in
      rw s (take_all m l h ∙ sym (take_all n l k)))
      (which (leb n m))

  -- each member, by its place
  pub all_at : (f : A → Bool) (l : List A) (z : A) (j : ℕ) → all f l ≡ true → j < length l → f (get_or l j z) ≡ true
  all_at f [] z j e h = absurd (omega arith)
  all_at f (x ∷ l) z zero e h = and_l (f x) (all f l) e
  all_at f (x ∷ l) z (suc j) e h = all_at f l z j (and_r (f x) (all f l) e) (omega arith)

  pub all-places : (f : A → Bool) (l : List A) (z : A) → ((j : ℕ) → j < length l → f (get_or l j z) ≡ true) → all f l ≡ true
  all-places f [] z h = refl
  all-places f (x ∷ l) z h =
      and_i (h 0 (omega arith)) (all-places f l z (λ (j : ℕ) (g : j < length l). h (suc j) (omega arith)))

  -- each of the first n
  pub all_take : (f : A → Bool) (l : List A) (z : A) (n : ℕ) → n ≤ length l → ((j : ℕ) → j < n → f (get_or l j z) ≡ true) → all f (take n l) ≡ true
  all_take f l z n h g =
      let m : length (take n l) ≡ n = length-take-le n l h in
      all-places f (take n l) z (λ (j : ℕ) (k : j < length (take n l)). rw (get_or-take n l j z (omega arith)) (g j (omega arith)))

  -- what each member's test says of it, said of each
  pub all_each : (f g : A → Bool) (l : List A) → ((x : A) → f x ≡ true → g x ≡ true) → all f l ≡ true → all g l ≡ true
  all_each f g [] h e = refl
  all_each f g (x ∷ l) h e = and_i (h x (and_l (f x) (all f l) e)) (all_each f g l h (and_r (f x) (all f l) e))

  pub all_both : (f g k : A → Bool) (l : List A) → ((x : A) → f x ≡ true → g x ≡ true → k x ≡ true) → all f l ≡ true → all g l ≡ true → all k l ≡ true
  all_both f g k [] h d e = refl
  all_both f g k (x ∷ l) h d e =
      and_i (h x (and_l (f x) (all f l) d) (and_l (g x) (all g l) e)) (all_both f g k l h (and_r (f x) (all f l) d) (and_r (g x) (all g l) e))

  -- lists one after the other, and one member more
  pub all_append : (f : A → Bool) (s t : List A) → all f (s ++ t) ≡ (all f s && all f t)
  all_append f [] t = refl
  all_append f (x ∷ s) t = ap (λ (b : Bool). f x && b) (all_append f s t) ∙ sym (and_assoc (f x) (all f s) (all f t))

  pub among-append : (same : A → A → Bool) (x : A) (s t : List A) → among same x (s ++ t) ≡ (among same x s || among same x t)
  among-append same x [] t = refl
  among-append same x (y ∷ s) t =
      ap (λ (b : Bool). same x y || b) (among-append same x s t) ∙ sym (or_assoc (same x y) (among same x s) (among same x t))

  pub all-next : (f : A → Bool) (l : List A) (i : ℕ) (z : A) → i < length l → all f (take (i + 1) l) ≡ (all f (take i l) && f (get_or l i z))
  all-next f l i z h =
      rw (add-one i, take-suc l i z h)
      (all_append f (take i l) (get_or l i z ∷ []) ∙ ap (λ (b : Bool). all f (take i l) && b) (and-true (f (get_or l i z))))

  pub among_next : (same : A → A → Bool) (x : A) (l : List A) (i : ℕ) (z : A) → i < length l → among same x (take (i + 1) l) ≡ (among same x (take i l) || same x (get_or l i z))
  among_next same x l i z h =
      rw (add-one i, take-suc l i z h)
      (among-append same x (take i l) (get_or l i z ∷ []) ∙ ap (λ (b : Bool). among same x (take i l) || b) (or-false (same x (get_or l i z))))

  -- some member, by its place
  among_at : (same : A → A → Bool) (x : A) (l : List A) (z : A) (j : ℕ) → j < length l → same x (get_or l j z) ≡ true → among same x l ≡ true
  among_at same x [] z j h e = absurd (omega arith)
  among_at same x (y ∷ l) z zero h e = rw e
  among_at same x (y ∷ l) z (suc j) h e = or_inr (same x y) (among same x l) (among_at same x l z j (omega arith) e)

  -- not among the first n
  pub among_none : (same : A → A → Bool) (x : A) (l : List A) (z : A) (n : ℕ) → n ≤ length l → ((j : ℕ) → j < n → same x (get_or l j z) ≡ false) → among same x (take n l) ≡ false
  among_none same x l z zero h k = refl
  among_none same x l z (suc n) h k =
      let e : among same x (take n l) ≡ false = among_none same x l z n (omega arith) (λ (j : ℕ) (g : j < n). k j (omega arith)) in
      rw (← add-one n) (among_next same x l n z (omega arith) ∙ rw (e, k n (omega arith)))

  -- two places that are the same: not apart
  pub pair_same : (same : A → A → Bool) (l : List A) (z : A) (i j : ℕ) → i < length l → j < i → same (get_or l j z) (get_or l i z) ≡ true → distinct same l ≡ false
  pair_same same [] z i j h g e = absurd (omega arith)
  pair_same same (x ∷ l) z zero j h g e = absurd (omega arith)
  pair_same same (x ∷ l) z (suc i) zero h g e = rw (among_at same x l z i (omega arith) e)
  pair_same same (x ∷ l) z (suc i) (suc j) h g e =
      ap (λ (b : Bool). not (among same x l) && b) (pair_same same l z i j (omega arith) (omega arith) e) ∙ and-false (not (among same x l))

-- the three parts of "apart" regrouped
apart_turn : (b c u w : Bool) → (not (c || b) && (not u && w)) ≡ (not (c || u) && (not b && w))
apart_turn b true u w = refl
apart_turn true false true w = refl
apart_turn true false false w = refl
apart_turn false false u w = refl

apart_parts : (a u d e w : Bool) → (not (a || u) && ((d && e) && w)) ≡ (((not a && d) && e) && (not u && w))
apart_parts true u d e w = refl
apart_parts false false d e w = refl
apart_parts false true true true w = refl
apart_parts false true true false w = refl
apart_parts false true false e w = refl

module _ {A : Type 0} (same : A → A → Bool) (turn : (x y : A) → same x y ≡ same y x) where
  apart_from : (x : A) (s t : List A) → all (λ (y : A). not (same y x || among same y s)) t ≡ (not (among same x t) && all (λ (y : A). not (among same y s)) t)
  apart_from x s [] = refl
  apart_from x s (y ∷ t) =
      rw (apart_from x s t, turn y x)
      (apart_turn (among same y s) (same x y) (among same x t) (all (λ (y : A). not (among same y s)) t))

  none_before : (t : List A) → all (λ (y : A). true) t ≡ true
  none_before [] = refl
  none_before (y ∷ t) = none_before t

  -- two lists one after the other: each apart, and no member of the second among the first
  pub distinct_append : (s t : List A) → distinct same (s ++ t) ≡ (distinct same s && distinct same t && all (λ (y : A). not (among same y s)) t)
  distinct_append [] t = sym (rw (none_before t) (and-true (distinct same t)))
  distinct_append (x ∷ s) t =
      rw (among-append same x s t, distinct_append s t, apart_from x s t)
      (apart_parts (among same x s) (among same x t) (distinct same s) (distinct same t) (all (λ (y : A). not (among same y s)) t))

  -- one place more
  pub distinct-next : (l : List A) (i : ℕ) (z : A) → i < length l → distinct same (take (i + 1) l) ≡ (distinct same (take i l) && not (among same (get_or l i z) (take i l)))
  distinct-next l i z h =
      rw (add-one i, take-suc l i z h)
      (distinct_append (take i l) (get_or l i z ∷ [])
      ∙ rw (and-true (distinct same (take i l)), and-true (not (among same (get_or l i z) (take i l)))))

  -- each apart from those before it
  pub distinct-all : (l : List A) (z : A) (n : ℕ) → n ≤ length l → ((i j : ℕ) → i < n → j < i → same (get_or l j z) (get_or l i z) ≡ false) → distinct same (take n l) ≡ true
  distinct-all l z zero h k = refl
  distinct-all l z (suc n) h k =
      let e : distinct same (take n l) ≡ true = distinct-all l z n (omega arith) (λ (i j : ℕ) (g : i < n) (q : j < i). k i j (omega arith) q) in
      let a : among same (get_or l n z) (take n l) ≡ false =
      among_none same (get_or l n z) l z n (omega arith) (λ (j : ℕ) (g : j < n). turn (get_or l n z) (get_or l j z) ∙ k n j (omega arith) g) in
      rw (← add-one n) (distinct-next l n z (omega arith) ∙ rw (e, a))
