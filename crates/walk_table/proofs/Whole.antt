-- What is worked out on the table copied out is what the bench's definitions say of the lent table: a table of 32 records is its own copy, and
-- the copy of another length breaks the rules, as that table does. Assumes nothing.
use mathlib.Core.Path.{◌≡◌, refl, sym, ap, subst, ◌∙◌}
use Prim.Native.Nat.{◌<◌}
use native.Mathlib.Omega.{arith}
use mathlib.Core.Bool.{true, false}
use mathlib.Core.Logic.{inl, inr}
use mathlib.Core.List.{List}
use lib.ListN.{length, take, get_or, replicate}
use lib.Seq.{get_or-take}
use lib.Dec.{T, eqb}
use borrow.Author.Tests.{eq-eqb}
use Rattle.purse.specs.declared.Purse.{Purse}
use Rattle.purse.specs.Purse.{zero_purse, well_formed}
use Rattle.purse.proofs.Bools.{which, refute}
use Rattle.desk.specs.declared.Desk.{Desk}
use Rattle.desk.specs.declared.Held.{Held}
use Rattle.rules.specs.Bench.{called}
use Rattle.rules.specs.Laid.{seen, is_zero_purse, held_ok, held_claims}
use Rattle.rules.proofs.Facts.{Table, is_table}
use Rattle.rules.proofs.Places.{places_long, places_used, Obeys, obeys}
use Rattle.walk_table.specs.Lent.{held, copied_of}

-- a table that obeys the rules has 32 records
pub long_is : (l : List Purse) (d : Desk) → held_ok (held l d) ≡ true → length l ≡ 32
long_is l d w = places_long is_zero_purse 32 d.purses l (obeys (held l d) w).purses

-- an unused record's next number is 0
unused_unformed : well_formed (called 0) zero_purse ≡ false
unfolding well_formed
unused_unformed = refl

-- unused records are no table: the desk has at least one purse, and its first record is not well formed
unused_bad : (d : Desk) → held_ok (held (replicate 32 zero_purse) d) ≡ false
unused_bad d = refute (held_ok (held (replicate 32 zero_purse) d)) (λ w.
    let o : Obeys (held (replicate 32 zero_purse) d) = obeys (held (replicate 32 zero_purse) d) w in
    let t : Table (seen (held (replicate 32 zero_purse) d)) = is_table (seen (held (replicate 32 zero_purse) d)) o.lists in
    let some : 0 < d.purses = omega (arith, t.some, places_used is_zero_purse 32 d.purses (replicate 32 zero_purse) o.purses) in
    let first : well_formed (called 0) (get_or (take d.purses (replicate 32 zero_purse)) 0 zero_purse) ≡ true = t.well 0 (omega (arith, t.some)) in
    let here : get_or (take d.purses (replicate 32 zero_purse)) 0 zero_purse ≡ zero_purse = get_or-take d.purses (replicate 32 zero_purse) 0 zero_purse some in
    subst T (sym first ∙ (ap (well_formed (called 0)) here ∙ unused_unformed)) tt)

other_bad : (l : List Purse) (d : Desk) → eqb (length l) 32 ≡ false → held_ok (held l d) ≡ false
other_bad l d p = refute (held_ok (held l d)) (λ w. subst T (sym (eq-eqb (length l) 32 (long_is l d w)) ∙ p) tt)

-- where a call g looks at a table only where it obeys the rules, its answer on the copy is its answer on the lent table
pub read_whole : {X : Type 0} (g : Held → X) (l : List Purse) (d : Desk) → ((k m : Held) → held_ok k ≡ false → held_ok m ≡ false → g k ≡ g m) → g (held (copied_of l) d) ≡ g (held l d)
unfolding copied_of
read_whole g l d blind = elim (which (eqb (length l) 32)) [ inl p ↦ rw p | inr p ↦ rw p (blind (held (replicate 32 zero_purse) d) (held l d) (unused_bad d) (other_bad l d p)) ]

claims_blind : (k m : Held) → held_ok k ≡ false → held_ok m ≡ false → held_claims k ≡ held_claims m
unfolding held_claims
claims_blind k m p r = rw (p, r)

pub claims_lent : (l : List Purse) (d : Desk) → held_claims (held (copied_of l) d) ≡ held_claims (held l d)
claims_lent l d = read_whole held_claims l d claims_blind

pub ok_lent : (l : List Purse) (d : Desk) → held_ok (held (copied_of l) d) ≡ held_ok (held l d)
ok_lent l d = read_whole held_ok l d (λ k m p r. p ∙ sym r)
