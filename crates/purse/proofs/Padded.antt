-- A list laid out on places, zero behind it: what stands there, and what a store does to the list, one law for each store of the code.
-- Assumes nothing.
use Prim.Native.Nat.{ℕ, zero, suc, ◌+◌, ◌-◌, ◌≤◌, ◌<◌}
use mathlib.Core.Path.{◌≡◌, refl, ◌∙◌, sym, ap}
use mathlib.Core.Bool.{Bool, true}
use mathlib.Core.List.{List, [], ◌∷◌, ◌++◌, append_assoc}
use lib.ListN.{length, get_or, take, drop, set, replicate, length-append, length-drop, length-replicate, length-set}
use lib.Seq.{take_at, drop_at, set-append_left, take-append-le, drop-append-le, length-take-le}
use native.Mathlib.Omega.{arith}
use Rattle.purse.specs.Lists.{all, without, padded}
use Rattle.purse.proofs.Bools.{and_l, and_r, and_i}

module _ {A : Type 0} where
  pub all_replicate : (f : A → Bool) (z : A) (n : ℕ) → f z ≡ true → all f (replicate n z) ≡ true
  all_replicate f z zero e = refl
  all_replicate f z (suc n) e = and_i e (all_replicate f z n e)

  pub replicate-all : (f : A → Bool) (z : A) (zeroed : (x : A) → f x ≡ true → x ≡ z) (l : List A) → all f l ≡ true → l ≡ replicate (length l) z
  replicate-all f z zeroed [] h = refl
  replicate-all f z zeroed (x ∷ l) h =
      let e : x ≡ z = zeroed x (and_l (f x) (all f l) h) in
      let k : l ≡ replicate (length l) z = replicate-all f z zeroed l (and_r (f x) (all f l) h) in
      λ i. e i ∷ k i

  -- a list in its places is read back
  pub taken_back : (many : ℕ) (z : A) (l : List A) → take (length l) (padded many z l) ≡ l
  taken_back many z l = take_at l (replicate (many - length l) z) (length l) refl

  pub rest_back : (many : ℕ) (z : A) (l : List A) → drop (length l) (padded many z l) ≡ replicate (many - length l) z
  rest_back many z l = drop_at l (replicate (many - length l) z) (length l) refl

  pub length-padded : (many : ℕ) (z : A) (l : List A) → length l ≤ many → length (padded many z l) ≡ many
  length-padded many z l h = omega (arith, length-append l (replicate (many - length l) z), length-replicate (many - length l) z)

  -- the code's stores: one replaced, one more at the end, one taken out and zero put behind
  pub set-padded : (many : ℕ) (z : A) (l : List A) (i : ℕ) (x : A) → i < length l → set (padded many z l) i x ≡ padded many z (set l i x)
  set-padded many z l i x h = set-append_left l (replicate (many - length l) z) i x h ∙ ap (λ (n : ℕ). set l i x ++ replicate (many - n) z) (sym (length-set l i x))

  push_at : (l : List A) (n : ℕ) (z x : A) → set (l ++ replicate (suc n) z) (length l) x ≡ (l ++ (x ∷ [])) ++ replicate n z
  push_at [] n z x = refl
  push_at (y ∷ l) n z x = ap (λ (t : List A). y ∷ t) (push_at l n z x)

  pub push_padded : (many : ℕ) (z : A) (l : List A) (x : A) → length l < many → set (padded many z l) (length l) x ≡ padded many z (l ++ (x ∷ []))
  push_padded many z l x h =
      let e : many - length l ≡ suc (many - (length l + 1)) = omega arith in
      let k : length (l ++ (x ∷ [])) ≡ length l + 1 = length-append l (x ∷ []) in
      ap (λ (n : ℕ). set (l ++ replicate n z) (length l) x) e
      ∙ (push_at l (many - (length l + 1)) z x ∙ ap (λ (n : ℕ). (l ++ (x ∷ [])) ++ replicate (many - n) z) (sym k))

  replicate_end : (n : ℕ) (z : A) → replicate n z ++ (z ∷ []) ≡ replicate (suc n) z
  replicate_end zero z = refl
  replicate_end (suc n) z = ap (λ (t : List A). z ∷ t) (replicate_end n z)

  pub length_without : (l : List A) (i : ℕ) → i < length l → length (without i l) ≡ length l - 1
  length_without l i h =
      omega (arith, length-append (take i l) (drop (suc i) l), length-take-le i l (omega arith), length-drop (suc i) l)

  pub pull_padded : (many : ℕ) (z : A) (l : List A) (i : ℕ) → i < length l → length l ≤ many → take i (padded many z l) ++ (drop (suc i) (padded many z l) ++ (z ∷ [])) ≡ padded many z (without i l)
  pull_padded many z l i h g =
      let r : List A = replicate (many - length l) z in
      let e : many - length (without i l) ≡ suc (many - length l) = omega (arith, length_without l i h) in
      ap (λ (t : List A). t ++ (drop (suc i) (padded many z l) ++ (z ∷ []))) (take-append-le i l r (omega arith))
      ∙ (ap (λ (t : List A). take i l ++ (t ++ (z ∷ []))) (drop-append-le (suc i) l r h)
      ∙ (ap (λ (t : List A). take i l ++ t) (append_assoc (drop (suc i) l) r (z ∷ []))
      ∙ (sym (append_assoc (take i l) (drop (suc i) l) (r ++ (z ∷ [])))
      ∙ ap (λ (t : List A). without i l ++ t) (replicate_end (many - length l) z ∙ ap (λ (n : ℕ). replicate n z) (sym e)))))

  -- a place is read as the list is, past its end too
  pub read_anywhere : (many : ℕ) (z : A) (l : List A) (i : ℕ) → get_or (padded many z l) i z ≡ get_or l i z
  read_anywhere many z l i = behind l (many - length l) i
    where
      zeros : (n i : ℕ) → get_or (replicate n z) i z ≡ z
      zeros zero i = refl
      zeros (suc n) zero = refl
      zeros (suc n) (suc i) = zeros n i

      behind : (l : List A) (n i : ℕ) → get_or (l ++ replicate n z) i z ≡ get_or l i z
      behind [] n i = zeros n i
      behind (x ∷ l) n zero = refl
      behind (x ∷ l) n (suc i) = behind l n i

  -- the code reads a used place of the list
  pub read_padded : (many : ℕ) (z : A) (l : List A) (i : ℕ) → i < length l → get_or (padded many z l) i z ≡ get_or l i z
  read_padded many z l i h = read_anywhere many z l i
