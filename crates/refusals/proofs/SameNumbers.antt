-- On a well-formed record each step's number is the one of purse/specs/Step: the record's own test does not apply, and the tests that the
-- head has besides never do.
-- Why: in the status of the expected message the sum or difference is there, and a busy purse has a log place left (the purse's Rules).
-- Assumes nothing.
use mathlib.Core.Path.{◌≡◌, refl}
use mathlib.Core.Bool.{true, false, ◌||◌}
use mathlib.Core.Logic.{⊎_elim}
use lib.Dec.{ltb, eqb}
use borrow.Author.Tests.{le-leb, lt-ltb, eqb-true, eqb-false}
use Rattle.purse.specs.declared.Name.{Name}
use Rattle.purse.specs.declared.Amount.{Amount}
use Rattle.purse.specs.declared.Message.{Message}
use Rattle.purse.specs.declared.Purse.{Purse}
use Rattle.purse.specs.Purse.{well_formed}
use Rattle.purse.specs.Step.{expected, from_number, to_number, deliver_number, abort_number, collect_number, load_number}
use Rattle.purse.proofs.Bools.{which, or_inr}
use Rattle.purse.proofs.Rules.{room, can_pay, can_get}
use Rattle.purse.proofs.Steps.{expected_status}
use Rattle.refusals.specs.Heads.{head_of}
use Rattle.refusals.specs.Numbers.{expected as expectedAt, fits, from_number as fromAt, to_number as to_at, deliver_number as deliverAt, abort_number as abortAt, collect_number as collectAt, load_number as loadAt}

-- the same message is expected
same_expected : (p : Purse) (m : Message) → expectedAt (head_of p) m ≡ expected p m
unfolding expected expectedAt
same_expected p m = refl

module _ (own : Name) (p : Purse) (w : well_formed own p ≡ true) where
  well_fits : (m : Message) → expected p m ≡ true → fits (head_of p) m.kind ≡ true
  unfolding fits
  well_fits m x =
      ⊎_elim
      (λ (e : eqb m.kind 1 ≡ true). rw e (le-leb _ _ (can_pay own p w (expected_status p m 1 x (eqb-true _ _ e)))))
      (λ (e : eqb m.kind 1 ≡ false).
      rw e
      (⊎_elim
      (λ (f : eqb m.kind 2 ≡ true). rw f (le-leb _ _ (can_get own p w (expected_status p m 2 x (eqb-true _ _ f)))))
      (λ (f : eqb m.kind 2 ≡ false). rw f)
      (which (eqb m.kind 2))))
      (which (eqb m.kind 1))

  well_room : (eqb p.status 0 || ltb p.logged 8) ≡ true
  well_room =
      ⊎_elim
      (λ (e : eqb p.status 0 ≡ true). rw e)
      (λ (e : eqb p.status 0 ≡ false). or_inr (eqb p.status 0) (ltb p.logged 8) (lt-ltb _ _ (room own p w (eqb-false _ _ e))))
      (which (eqb p.status 0))

  pub same_from : (other : Name) (a : Amount) → from_number p own other a ≡ fromAt (head_of p) own other a
  unfolding from_number fromAt
  same_from other a = rw w

  pub same_to : (other : Name) (a : Amount) → to_number p own other a ≡ to_at (head_of p) own other a
  unfolding to_number to_at
  same_to other a = rw w

  pub same_deliver : (m : Message) → deliver_number p own m ≡ deliverAt (head_of p) own m
  unfolding deliver_number deliverAt
  same_deliver m =
      rw (w, same_expected p m)
      (⊎_elim
      (λ (t : ltb 31 own.0 ≡ true). rw t)
      (λ (t : ltb 31 own.0 ≡ false).
      rw t
      (⊎_elim
      (λ (x : expected p m ≡ true). rw (x, well_fits m x))
      (λ (x : expected p m ≡ false). rw x)
      (which (expected p m))))
      (which (ltb 31 own.0)))

  pub same_abort : abort_number p own ≡ abortAt (head_of p) own
  unfolding abort_number abortAt
  same_abort = rw (w, well_room)

  pub same_collect : collect_number p own ≡ collectAt (head_of p) own
  unfolding collect_number collectAt
  same_collect = rw w

  pub same_load : (a : Amount) → load_number p own a ≡ loadAt (head_of p) own a
  unfolding load_number loadAt
  same_load a = rw w
