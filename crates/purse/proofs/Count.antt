-- Counting: how often a thing stands in a list. Membership, "no two the same", "each member" and sums, all by numbers.
-- Assumes nothing.
use Prim.Native.Nat.{ℕ, zero, suc, ◌+◌, ◌≤◌, ◌<◌}
use mathlib.Core.Path.{◌≡◌, refl, ◌∙◌, sym, ap}
use mathlib.Core.Bool.{Bool, true, false, not, cond}
use mathlib.Core.Logic.{⊎_elim}
use mathlib.Core.List.{List, [], ◌∷◌, ◌++◌, map}
use lib.ListN.{length, get_or, take, drop}
use lib.Seq.{split_at, take-suc}
use lib.Dec.{ltb, eqb}
use native.Mathlib.Numerals.{add-one}
use native.Mathlib.Omega.{arith}
use borrow.Author.Tests.{ltb-true, ltb-false, eqb-true, eqb-false, lt-ltb, le-ltb, not-true}
use Rattle.purse.specs.Lists.{all, among, distinct, keep, total, without, sum_to, append_to}
use Rattle.purse.proofs.Bools.{and_l, and_r, either, and_i, nor_l, nor_r, not_i, which, refute, together}

-- not once is never
pub none : (n : ℕ) → (1 ≤ n → ⊥) → n ≡ 0
none n h = omega arith

-- 1 where it holds, else 0
abbrev pub bit : Bool → ℕ
bit true = 1
bit false = 0

pub bit_le : (b : Bool) → bit b ≤ 1
bit_le true = omega arith
bit_le false = omega arith

pub bit_yes : (b : Bool) → 1 ≤ bit b → b ≡ true
bit_yes true h = refl
bit_yes false h = absurd (omega arith)

pub cond_zero : (b : Bool) (n : ℕ) → cond b (0 + n) 0 ≡ cond b n 0
cond_zero true n = omega arith
cond_zero false n = refl

abbrev pub times : {A : Type 0} → (A → A → Bool) → A → List A → ℕ
times same x [] = 0
times same x (y ∷ ys) = bit (same x y) + times same x ys

-- the list without the first that is the same
abbrev pub removed : {A : Type 0} → (A → A → Bool) → A → List A → List A
removed same x [] = []
removed same x (y ∷ ys) = cond (same x y) ys (y ∷ removed same x ys)

module _ {A : Type 0} (same : A → A → Bool) where
  pub times_append : (x : A) (s t : List A) → times same x (s ++ t) ≡ times same x s + times same x t
  times_append x [] t = omega arith
  times_append x (y ∷ s) t = omega (arith, times_append x s t)

  pub times_split : (x : A) (l : List A) (i : ℕ) (z : A) → i < length l → times same x l ≡ times same x (without i l) + bit (same x (get_or l i z))
  times_split x l i z h =
      let e : times same x l ≡ times same x (take i l ++ get_or l i z ∷ drop (suc i) l) = ap (times same x) (split_at l i z h) in
      omega (arith, times_append x (take i l) (get_or l i z ∷ drop (suc i) l), times_append x (take i l) (drop (suc i) l))

  pub among_times : (x : A) (l : List A) → among same x l ≡ true → 1 ≤ times same x l
  among_times x [] h = let z : ◌≡◌ {A = ℕ} 0 1 = cc in omega arith
  among_times x (y ∷ l) h =
      ⊎_elim (λ (e : same x y ≡ true). rw e (omega arith)) (λ (e : among same x l ≡ true). omega (arith, among_times x l e))
      (either (same x y) (among same x l) h)

  pub apart_times : (x : A) (l : List A) → among same x l ≡ false → times same x l ≡ 0
  apart_times x [] h = refl
  apart_times x (y ∷ l) h = rw (nor_l (same x y) (among same x l) h) (omega (arith, apart_times x l (nor_r (same x y) (among same x l) h)))

  pub times_among : (x : A) (l : List A) → 1 ≤ times same x l → among same x l ≡ true
  times_among x l h =
      ⊎_elim (λ (e : among same x l ≡ true). e) (λ (e : among same x l ≡ false). absurd (omega (arith, apart_times x l e)))
      (which (among same x l))

  pub times_apart : (x : A) (l : List A) → times same x l ≡ 0 → among same x l ≡ false
  times_apart x l h = refute (among same x l) (λ (e : among same x l ≡ true). omega (arith, among_times x l e))

module _ {A : Type 0} (same : A → A → Bool) (eq : (x y : A) → same x y ≡ true → x ≡ y) (rf : (x : A) → same x x ≡ true) where
  -- being the same is symmetric
  pub turn : (x y : A) → same x y ≡ same y x
  turn x y =
      together (same x y) (same y x)
      (λ (e : same x y ≡ true). ap (λ (z : A). same y z) (eq x y e) ∙ rf y)
      (λ (e : same y x ≡ true). ap (λ (z : A). same x z) (eq y x e) ∙ rf x)

  -- no two the same: each stands at most once
  pub is_distinct : (l : List A) → distinct same l ≡ true → (x : A) → times same x l ≤ 1
  is_distinct [] h x = omega arith
  is_distinct (y ∷ l) h x =
      ⊎_elim
      (λ (e : same x y ≡ true).
      let n : times same y l ≡ 0 = apart_times same y l (not-true _ (and_l (not (among same y l)) (distinct same l) h)) in
      let m : times same x l ≡ 0 = ap (λ (z : A). times same z l) (eq x y e) ∙ n in
      rw e (omega arith))
      (λ (e : same x y ≡ false). rw e (omega (arith, is_distinct l (and_r (not (among same y l)) (distinct same l) h) x)))
      (which (same x y))

  pub distinct_is : (l : List A) → ((x : A) → times same x l ≤ 1) → distinct same l ≡ true
  distinct_is [] h = refl
  distinct_is (y ∷ l) h =
      let e : 1 + times same y l ≤ 1 = rw (rf y) at (h y) in
      and_i (not_i _ (times_apart same y l (omega arith))) (distinct_is l (λ (x : A). omega (arith, h x)))

  -- each member
  pub is_all : (f : A → Bool) (l : List A) → all f l ≡ true → (x : A) → 1 ≤ times same x l → f x ≡ true
  is_all f [] h x t = absurd (omega arith)
  is_all f (y ∷ l) h x t =
      ⊎_elim
      (λ (e : same x y ≡ true). ap f (eq x y e) ∙ and_l (f y) (all f l) h)
      (λ (e : same x y ≡ false).
      let u : 0 + times same x l ≡ bit (same x y) + times same x l = rw e in
      is_all f l (and_r (f y) (all f l) h) x (omega arith))
      (which (same x y))

  pub all_is : (f : A → Bool) (l : List A) → ((x : A) → 1 ≤ times same x l → f x ≡ true) → all f l ≡ true
  all_is f [] h = refl
  all_is f (y ∷ l) h =
      and_i (h y (rw (rf y) (omega arith))) (all_is f l (λ (x : A) (t : 1 ≤ times same x l). h x (omega arith)))

  pub times_at : (l : List A) (i : ℕ) (z : A) → i < length l → 1 ≤ times same (get_or l i z) l
  times_at l i z h =
      let e : bit (same (get_or l i z) (get_or l i z)) ≡ 1 = rw (rf (get_or l i z)) in
      omega (arith, times_split same (get_or l i z) l i z h)

  pub times_keep : (f : A → Bool) (x : A) (l : List A) → times same x (keep f l) ≡ cond (f x) (times same x l) 0
  times_keep f x [] = ⊎_elim (λ (e : f x ≡ true). rw e) (λ (e : f x ≡ false). rw e) (which (f x))
  times_keep f x (y ∷ l) =
      ⊎_elim
      (λ (e : same x y ≡ true).
      let g : f y ≡ f x = ap f (sym (eq x y e)) in
      ⊎_elim
      (λ (h : f x ≡ true). rw (g, h) (ap (λ (n : ℕ). bit (same x y) + n) (times_keep f x l ∙ rw h)))
      (λ (h : f x ≡ false). rw (g, h) (times_keep f x l ∙ rw h))
      (which (f x)))
      (λ (e : same x y ≡ false).
      ⊎_elim
      (λ (h : f y ≡ true). rw (h, e) (omega (arith, times_keep f x l, cond_zero (f x) (times same x l))))
      (λ (h : f y ≡ false). rw (h, e) (omega (arith, times_keep f x l, cond_zero (f x) (times same x l))))
      (which (f y)))
      (which (same x y))

  times_removed : (y : A) (l : List A) → 1 ≤ times same y l → (x : A) → times same x (removed same y l) + bit (same x y) ≡ times same x l
  times_removed y [] h x = absurd (omega arith)
  times_removed y (z ∷ l) h x =
      ⊎_elim
      (λ (e : same y z ≡ true). let g : same x y ≡ same x z = ap (same x) (eq y z e) in rw (e, g) (omega arith))
      (λ (e : same y z ≡ false).
      let u : bit (same y z) ≡ 0 = rw e in
      rw e (omega (arith, times_removed y l (omega arith) x)))
      (which (same y z))

  total_removed : (w : A → ℕ) (y : A) (l : List A) → 1 ≤ times same y l → total w l ≡ w y + total w (removed same y l)
  total_removed w y [] h = absurd (omega arith)
  total_removed w y (z ∷ l) h =
      ⊎_elim
      (λ (e : same y z ≡ true). let g : w y ≡ w z = ap w (eq y z e) in rw e (omega arith))
      (λ (e : same y z ≡ false).
      let u : bit (same y z) ≡ 0 = rw e in
      rw e (omega (arith, total_removed w y l (omega arith))))
      (which (same y z))

  -- where each stands no more often in one list than in another, its sum is no greater
  pub total_le : (w : A → ℕ) (s t : List A) → ((x : A) → times same x s ≤ times same x t) → total w s ≤ total w t
  total_le w [] t h = omega arith
  total_le w (y ∷ s) t h =
      let r : bit (same y y) ≡ 1 = rw (rf y) in
      let i : 1 ≤ times same y t = omega (arith, h y) in
      omega (arith, total_removed w y t i, total_le w s (removed same y t) (λ (x : A). omega (arith, h x, times_removed y t i x)))

  pub total_eq : (w : A → ℕ) (s t : List A) → ((x : A) → times same x s ≡ times same x t) → total w s ≡ total w t
  total_eq w s t h =
      omega (arith, total_le w s t (λ (x : A). omega (arith, h x)), total_le w t s (λ (x : A). omega (arith, h x)))

-- sums
pub total-append : {A : Type 0} (w : A → ℕ) (s t : List A) → total w (s ++ t) ≡ total w s + total w t
total-append w [] t = omega arith
total-append w (x ∷ s) t = omega (arith, total-append w s t)

pub keep_append : {A : Type 0} (f : A → Bool) (s t : List A) → keep f (s ++ t) ≡ keep f s ++ keep f t
keep_append f [] t = refl
keep_append {A} f (x ∷ s) t =
    ⊎_elim
    (λ (e : f x ≡ true). rw e (ap (λ (l : List A). x ∷ l) (keep_append f s t)))
    (λ (e : f x ≡ false). rw e (keep_append f s t))
    (which (f x))

-- of those kept: what each member adds
pub total-keep : {A : Type 0} (w : A → ℕ) (f : A → Bool) (l : List A) → total w (keep f l) ≡ total (λ (x : A). cond (f x) (w x) 0) l
total-keep w f [] = refl
total-keep w f (x ∷ l) =
    ⊎_elim
    (λ (e : f x ≡ true). rw e (ap (λ (n : ℕ). w x + n) (total-keep w f l)))
    (λ (e : f x ≡ false). rw e (total-keep w f l ∙ omega arith))
    (which (f x))

-- of members of which f holds, the weights may be told another way
pub total_each : {A : Type 0} (w v : A → ℕ) (f : A → Bool) (l : List A) → ((x : A) → f x ≡ true → w x ≡ v x) → all f l ≡ true → total w l ≡ total v l
total_each w v f [] h a = refl
total_each w v f (x ∷ l) h a = omega (arith, h x (and_l (f x) (all f l) a), total_each w v f l h (and_r (f x) (all f l) a))

-- one place more
pub total-next : {A : Type 0} (w : A → ℕ) (l : List A) (i : ℕ) (z : A) → i < length l → total w (take (i + 1) l) ≡ total w (take i l) + w (get_or l i z)
total-next w l i z h = rw (add-one i, take-suc l i z h) (omega (arith, total-append w (take i l) (get_or l i z ∷ [])))

pub total-map : {A B : Type 0} (w : B → ℕ) (f : A → B) (l : List A) → total w (map f l) ≡ total (λ (x : A). w (f x)) l
total-map w f [] = refl
total-map w f (x ∷ l) = ap (λ (n : ℕ). w (f x) + n) (total-map w f l)

-- the number of members
pub total_ones : {A : Type 0} (l : List A) → total (λ (x : A). 1) l ≡ length l
total_ones [] = refl
total_ones (x ∷ l) = omega (arith, total_ones l)

pub total_append_to : {A : Type 0} (w : A → ℕ) (n : ℕ) (f : ℕ → List A) → total w (append_to n f) ≡ sum_to n (λ (p : ℕ). total w (f p))
total_append_to w zero f = refl
total_append_to w (suc n) f = omega (arith, total-append w (append_to n f) (f n), total_append_to w n f)

pub times_append_to : {A : Type 0} (same : A → A → Bool) (x : A) (n : ℕ) (f : ℕ → List A) → times same x (append_to n f) ≡ sum_to n (λ (p : ℕ). times same x (f p))
times_append_to same x zero f = refl
times_append_to same x (suc n) f = omega (arith, times_append same x (append_to n f) (f n), times_append_to same x n f)

pub sum_le : (n : ℕ) (f g : ℕ → ℕ) → ((p : ℕ) → p < n → f p ≤ g p) → sum_to n f ≤ sum_to n g
sum_le zero f g h = omega arith
sum_le (suc n) f g h = omega (arith, sum_le n f g (λ (p : ℕ) (l : p < n). h p (omega arith)), h n (omega arith))

pub sum_same : (n : ℕ) (f g : ℕ → ℕ) → ((p : ℕ) → p < n → f p ≡ g p) → sum_to n f ≡ sum_to n g
sum_same zero f g h = refl
sum_same (suc n) f g h = omega (arith, sum_same n f g (λ (p : ℕ) (l : p < n). h p (omega arith)), h n (omega arith))

pub sum_add : (n : ℕ) (f g : ℕ → ℕ) → sum_to n (λ (p : ℕ). f p + g p) ≡ sum_to n f + sum_to n g
sum_add zero f g = refl
sum_add (suc n) f g = omega (arith, sum_add n f g)

-- past n there is nothing
pub sum_beyond : (n k : ℕ) (f : ℕ → ℕ) → n ≤ k → ((p : ℕ) → n ≤ p → f p ≡ 0) → sum_to k f ≡ sum_to n f
sum_beyond n zero f l h = let e : n ≡ 0 = omega arith in rw e
sum_beyond n (suc k) f l h =
    ⊎_elim
    (λ (a : ltb k n ≡ true). let e : n ≡ suc k = omega (arith, ltb-true k n a) in rw e)
    (λ (a : ltb k n ≡ false). omega (arith, sum_beyond n k f (ltb-false k n a) h, h k (ltb-false k n a)))
    (which (ltb k n))

-- one name's share
pub sum_one : (n k v : ℕ) → sum_to n (λ (p : ℕ). cond (eqb k p) v 0) ≡ cond (ltb k n) v 0
sum_one zero k v = rw (le-ltb k 0 (omega arith))
sum_one (suc n) k v =
    ⊎_elim
    (λ (a : eqb k n ≡ true).
    let e : k ≡ n = eqb-true k n a in
    rw (a, lt-ltb k (suc n) (omega arith)) (omega (arith, sum_one n k v, zeroed (ltb k n) v (le-ltb k n (omega arith)))))
    (λ (a : eqb k n ≡ false).
    let e : (k ≡ n → ⊥) = eqb-false k n a in
    rw a
    (⊎_elim
    (λ (c : ltb k n ≡ true).
    rw (lt-ltb k (suc n) (omega (arith, ltb-true k n c))) (omega (arith, sum_one n k v, oned (ltb k n) v c)))
    (λ (c : ltb k n ≡ false).
    rw (le-ltb k (suc n) (omega (arith, ltb-false k n c))) (omega (arith, sum_one n k v, zeroed (ltb k n) v c)))
    (which (ltb k n))))
    (which (eqb k n))
  where
    zeroed : (b : Bool) (v : ℕ) → b ≡ false → cond b v 0 ≡ 0
    zeroed b v e = rw e

    oned : (b : Bool) (v : ℕ) → b ≡ true → cond b v 0 ≡ v
    oned b v e = rw e

module _ {A : Type 0} (w f : A → ℕ) where
  -- the sum over the names of what each name has
  abbrev shares : List A → ℕ → ℕ
  shares l p = total w (keep (λ (d : A). eqb (f d) p) l)

  shares_more : (d : A) (l : List A) (p : ℕ) → shares (d ∷ l) p ≡ cond (eqb (f d) p) (w d) 0 + shares l p
  shares_more d l p = ⊎_elim (λ (e : eqb (f d) p ≡ true). rw e) (λ (e : eqb (f d) p ≡ false). rw e (omega arith)) (which (eqb (f d) p))

  sum_more : (n : ℕ) (d : A) (l : List A) → sum_to n (shares (d ∷ l)) ≡ cond (ltb (f d) n) (w d) 0 + sum_to n (shares l)
  sum_more n d l =
      sum_same n (shares (d ∷ l)) (λ (p : ℕ). cond (eqb (f d) p) (w d) 0 + shares l p) (λ (p : ℕ) (h : p < n). shares_more d l p)
      ∙ omega (arith, sum_add n (λ (p : ℕ). cond (eqb (f d) p) (w d) 0) (shares l), sum_one n (f d) (w d))

  sum_none : (n : ℕ) → sum_to n (shares []) ≡ 0
  sum_none zero = refl
  sum_none (suc n) = omega (arith, sum_none n)

  pub sum_shares : (n : ℕ) (l : List A) → all (λ (d : A). ltb (f d) n) l ≡ true → sum_to n (λ (p : ℕ). total w (keep (λ (d : A). eqb (f d) p) l)) ≡ total w l
  sum_shares n [] h = sum_none n
  sum_shares n (d ∷ l) h =
      let m : cond (ltb (f d) n) (w d) 0 ≡ w d = rw (and_l (ltb (f d) n) (all (λ (d : A). ltb (f d) n) l) h) in
      omega (arith, sum_more n d l, sum_shares n l (and_r (ltb (f d) n) (all (λ (d : A). ltb (f d) n) l) h))
