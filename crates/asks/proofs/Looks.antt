-- Where an event looks: the message's place is one of the 256, and what stands there is what the tests read of the whole desk; the record's place
-- is one of the table's. Assumes nothing.
use mathlib.Core.Path.{◌≡◌}
use mathlib.Core.Bool.{true, false}
use mathlib.Core.Logic.{inl, inr, ⊎_elim}
use Prim.Native.Nat.{ℕ, ◌<◌}
use native.Mathlib.Omega.{arith}
use lib.ListN.{length, get_or, get_or-eq_default}
use lib.Dec.{ltb, leb}
use borrow.Author.Tests.{ltb-true, ltb-false, leb-true}
use Rattle.purse.specs.declared.Name.{Name}
use Rattle.purse.specs.declared.Message.{Message}
use Rattle.purse.specs.Details.{zero_message}
use Rattle.purse.proofs.Bools.{which}
use Rattle.desk.specs.declared.Desk.{Desk}
use Rattle.rules.specs.declared.Event.{Event}
use Rattle.rules.specs.declared.Event.TheVariants.{Malformed, StartFrom, StartTo, Deliver, Abort, Lose, Collect, Issue, Load}
use Rattle.rules.specs.Bench.{called}
use Rattle.asks.specs.Asks.{place_in, place_of, delivered_at, within, seen_with, seen_at}

pub within_less : (n : ℕ) → within n < 256
unfolding within
within_less n = elim (which (ltb n 256)) [ inl p ↦ rw p (ltb-true n 256 p) | inr p ↦ rw p (omega arith) ]

pub within_is : (n : ℕ) → ltb n 256 ≡ true → within n ≡ n
unfolding within
within_is n p = rw p

-- what stands at the place within which an event delivers is what its tests read
pub seen_lent : (d : Desk) (e : Event) → length d.ether.places ≡ 256
    → seen_with d.purses d.ether.count d.archive.count (get_or d.ether.places (within (delivered_at e)) zero_message) e ≡ seen_at d e
unfolding within seen_with
seen_lent d e long =
    elim (which (ltb (delivered_at e) 256)) [
      | inl p ↦ rw p
      | inr p ↦ rw (p, get_or-eq_default d.ether.places zero_message {n = delivered_at e} (omega (arith, long, ltb-false (delivered_at e) 256 p)))
    ]

-- the record's place is one of the table's
placed : (n : Name) → place_in n < 32
placed n =
    ⊎_elim
    (λ (w : leb n.0 31 ≡ true). rw w (omega (arith, leb-true n.0 31 w)))
    (λ (w : leb n.0 31 ≡ false). rw w (omega arith))
    (which (leb n.0 31))

place_below : (purses : ℕ) (e : Event) → place_of purses e < 32
unfolding place_of
place_below purses Malformed = omega arith
place_below purses (StartFrom own other s a) = placed own
place_below purses (StartTo own other s a) = placed own
place_below purses (Deliver own i) = placed own
place_below purses (Abort own) = placed own
place_below purses (Lose i) = omega arith
place_below purses (Collect own) = placed own
place_below purses (Issue class v) = placed (called purses)
place_below purses (Load own a) = placed own

pub look_below : (purses messages entries : ℕ) (m : Message) (e : Event) → (seen_with purses messages entries m e).place < 32
unfolding seen_with
look_below purses messages entries m e = place_below purses e

pub seen_below : (d : Desk) (e : Event) → (seen_at d e).place < 32
seen_below d e = place_below d.purses e
