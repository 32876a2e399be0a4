-- The opening bytes of an input, read in two parts, and the bench that they open.
-- Assumes nothing.
use Prim.Native.Nat.{ℕ, zero, suc, ◌+◌, ◌≤◌, ◌<◌}
use native.Mathlib.Omega.{arith}
use mathlib.Core.Path.{◌≡◌, refl, ap, ◌∙◌, subst}
use mathlib.Core.List.{List, [], ◌∷◌, ◌++◌}
use lib.ListN.{length, take, drop, get_or}
use lib.Seq.{take_at, take_all, length-take-le}
use borrow.Rule.Slice.PartMut.{put_mid}
use Rattle.std.specs.Prelude.{None, Some}
use Rattle.std.specs.declared.option.Option.{Option}
use Rattle.std.specs.Io.KnownBytes.{Consumes, IsAtEnd}
use Rattle.desk.specs.declared.Answered.{Answered}
use Rattle.rules.specs.Laid.{held_opening}
use Rattle.listing.specs.declared.Opening.{Opening}
use Rattle.listing.specs.Opening.{balance_bytes, balances_in, opening_in}
use Rattle.listing.specs.Whole.{unopened}
use Rattle.listing.proofs.Whole.{opening_front}
use Rattle.stream.specs.Run.{Reads, Opens}
use Rattle.stream.proofs.Moves.{more_came}

-- bytes before others, where these are none unless n bytes are before them
cut : (n : ℕ) (bs k : List ℕ) → length bs ≤ n → (length bs < n → k ≡ []) → (take n (bs ++ k) ≡ bs) × (drop n (bs ++ k) ≡ k)
cut zero [] k h e = (refl, refl)
cut zero (y ∷ bs) k h e = absurd (omega arith)
cut (suc n) [] k h e = let none : k ≡ [] = e (omega arith) in rw none (refl, refl)
cut (suc n) (y ∷ bs) k h e = let rest = cut n bs k (omega arith) (λ q. e (omega arith)) in (ap (λ (t : List ℕ). y ∷ t) rest.0, rest.1)

-- a purse count, and as many balance bytes as follow it or are there
pub opening_read : (a b d : Option (List ℕ)) (x : ℕ) (bs : List ℕ) → Consumes a b (x ∷ []) → Consumes b d bs → length bs ≤ balance_bytes x
    → (length bs < balance_bytes x → IsAtEnd d)
    → Reads a (x ∷ bs) d
opening_read None b d x bs p q n end = tt
opening_read (Some l) None d x bs p q n end = absurd p
opening_read (Some l) (Some m) None x bs p q n end = absurd q
opening_read (Some l) (Some m) (Some k) x bs p q n end =
    let whole : l ≡ x ∷ (bs ++ k) = p ∙ ap (λ (t : List ℕ). x ∷ t) q in
    let more : 1 + balance_bytes x ≡ suc (balance_bytes x) = omega arith in
    let parts = cut (balance_bytes x) bs k n end in
    rw (whole, more, parts.0, parts.1) (refl, refl)

-- the same where the first byte and those behind it are read into a buffer
pub opening_put : (a b d : Option (List ℕ)) (count room bs : List ℕ) (n m k : ℕ) → Consumes a b (take n count) → Consumes b d (take m bs) → length count ≡ 1
    → (n ≡ 0 → ⊥)
    → m ≤ length bs
    → length bs ≡ balance_bytes (get_or (count ++ room) 0 0)
    → (m < length bs → IsAtEnd d)
    → Reads a (take (1 + m) (put_mid 1 k (count ++ room) bs)) d
opening_put a b d [] room bs n m k p q one some fits long end = absurd (omega arith)
opening_put a b d (x ∷ y ∷ count) room bs n m k p q one some fits long end = absurd (omega arith)
opening_put a b d (x ∷ []) room bs n m k p q one some fits long end =
    let first : take n (x ∷ []) ≡ x ∷ [] = take_all n (x ∷ []) (omega arith) in
    let behind : length (take m bs) ≡ m = length-take-le m bs fits in
    let P : List ℕ → Type 0 = λ t. Reads a t d in
    subst P (more_came (x ∷ room) bs 1 k m (omega arith) fits)
    (opening_read a b d x (take m bs) (rw first at p) q (omega arith) (λ less. end (omega (arith, less, behind, long))))

-- the bench opened
pub opened : (i i' : Option (List ℕ)) (bytes : List ℕ) (o : Opening) (a : Answered) → Reads i bytes i' → o ≡ opening_in bytes
    → a ≡ held_opening unopened (take o.count o.balances)
    → Opens i a i'
unfolding opening_in
opened None i' bytes o a p q r = tt
opened (Some l) i' bytes o a p q r =
    let bs : List ℕ = balances_in bytes in
    let taken : take o.count o.balances ≡ balances_in l = rw q (take_at bs _ (length bs) refl ∙ ap balances_in p.0 ∙ opening_front l) in
    (r ∙ ap (held_opening unopened) taken, p.1)
