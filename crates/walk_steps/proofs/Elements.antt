-- What whoever holds an array knows of its elements: each is what its machine value says, and stays so where one element is replaced. By
-- induction on the list. It names no crate's type. Assumes nothing.
use mathlib.Core.Path.{◌≡◌, refl, sym, ap, subst, ◌∙◌}
use Prim.Native.Nat.{ℕ, zero, suc, ◌<◌}
use native.Mathlib.Nat.{not-suc-le-zero, le_of_suc-le-suc}
use mathlib.Core.List.{List, [], ◌∷◌, map}
use lib.ListN.{length, get_or, set, length-map, length-set, get_or-map}
use mir.Val.{Val}
use denote.RattleType.{RattleType}
use denote.Shadow.{shadow}
use denote.Laws.{Is}
use denote.Array.{Array, array_val, each}

each_is : (R : RattleType) (d : R.Denot) (v : Val) (xs : List R.Denot) (us : List Val) → shadow (each R.Denot R.own_val xs us) → (j : ℕ) → j < length xs → Is R (get_or xs j d) (get_or us j v ∷ [])
each_is R d v [] us s j l = absurd (not-suc-le-zero l)
each_is R d v (x ∷ xs) [] s j l = absurd s
each_is R d v (x ∷ xs) (u ∷ us) s zero l = s.0
each_is R d v (x ∷ xs) (u ∷ us) s (suc j) l = each_is R d v xs us s.1 j (le_of_suc-le-suc l)

each_set : (R : RattleType) (y : R.Denot) (v : Val) (xs : List R.Denot) (us : List Val) → shadow (each R.Denot R.own_val xs us) → Is R y (v ∷ []) → (j : ℕ) → shadow (each R.Denot R.own_val (set xs j y) (set us j v))
each_set R y v [] [] s i j = s
each_set R y v [] (u ∷ us) s i j = absurd s
each_set R y v (x ∷ xs) [] s i j = absurd s
each_set R y v (x ∷ xs) (u ∷ us) s i zero = (i, s.1)
each_set R y v (x ∷ xs) (u ∷ us) s i (suc j) = (s.0, each_set R y v xs us s.1 i j)

-- a member replaced, then mapped
pub map-set : {A B : Type 0} (f : A → B) (l : List A) (i : ℕ) (x : A) → map f (set l i x) ≡ set (map f l) i (f x)
map-set f [] i x = refl
map-set f (a ∷ l) zero x = refl
map-set f (a ∷ l) (suc i) x = ap (λ k. f a ∷ k) (map-set f l i x)

-- ---- an array as a struct's field has it: its members go `into` what the field holds, and f gives their machine values
module _ (R : RattleType) {X : Type 0} (into : X → R.Denot) (f : R.Denot → Val) (tells : (x : X) (vs : List Val) → Is R (into x) vs → vs ≡ f (into x) ∷ []) where
  each_told : (l : List X) (us : List Val) → shadow (each R.Denot R.own_val (map into l) us) → shadow (each R.Denot R.own_val (map into l) (map f (map into l)))
  each_told [] [] s = s
  each_told [] (u ∷ us) s = absurd s
  each_told (x ∷ l) [] s = absurd s
  each_told (x ∷ l) (u ∷ us) s = (subst (Is R (into x)) (tells x (u ∷ []) s.0) s.0, each_told l us s.1)

  module _ (n : ℕ) (l : List X) (vs : List Val) (is : Is (Array R n) (map into l) vs) where
    -- a member
    pub member_is : (d : X) (j : ℕ) → j < length l → Is R (into (get_or l j d)) (f (into (get_or l j d)) ∷ [])
    member_is d j less =
        let i : Is R (get_or (map into l) j (into d)) (get_or is.0 j (f (into d)) ∷ []) = each_is R (into d) (f (into d)) (map into l) is.0 is.1.1 j (subst (λ (m : ℕ). j < m) (sym (length-map l into)) less) in
        let k : Is R (into (get_or l j d)) (get_or is.0 j (f (into d)) ∷ []) = subst (λ (y : R.Denot). Is R y (get_or is.0 j (f (into d)) ∷ [])) (get_or-map into l j d) i in
        subst (Is R (into (get_or l j d))) (tells (get_or l j d) _ k) k

    -- one member replaced
    pub array_written : (j : ℕ) (x : X) → Is R (into x) (f (into x) ∷ []) → Is (Array R n) (map into (set l j x)) (array_val (map f (map into (set l j x))) ∷ [])
    array_written j x x-is = (
      map f (map into (set l j x)),
      (
        (refl, length-map (set l j x) into ∙ length-set l j x ∙ sym (length-map l into) ∙ is.1.0.1),
        each_told (set l j x) (set is.0 j (f (into x))) (subst (λ (xs : List R.Denot). shadow (each R.Denot R.own_val xs (set is.0 j (f (into x))))) (sym (map-set into l j x))
            (each_set R (into x) (f (into x)) (map into l) is.0 is.1.1 x-is j)),
      ),
    )
