-- The card's step is the test of its record, and behind it the act: what the step makes of the record's head, and of its log.
-- Why: on a well-formed record the step's number is the head's (`SameNumbers`), and a head done or left, put together with the log, is the
-- record that the step leaves.
-- Assumes nothing.
use Prim.Native.Nat.{ℕ}
use mathlib.Core.Path.{◌≡◌, ◌∙◌, ap}
use mathlib.Core.Bool.{true, false, cond}
use mathlib.Core.Logic.{⊎_elim}
use lib.Dec.{eqb}
use Rattle.purse.specs.declared.Name.{Name}
use Rattle.purse.specs.declared.Purse.{Purse}
use Rattle.purse.specs.declared.CardEvent.{CardEvent}
use Rattle.purse.specs.declared.CardEvent.TheVariants.{StartFrom, StartTo, Deliver, Abort, Collect, Load}
use Rattle.purse.specs.Details.{zero_details, zero_message}
use Rattle.purse.specs.Purse.{well_formed}
use Rattle.purse.specs.Step.{refused_by, done, unless, from_number, to_number, deliver_number, abort_number, collect_number, start_from, start_to, delivered, deliver_to, aborted, abort_by, collect_by, load_number, load_by}
use Rattle.purse.specs.Card.{step_by}
use Rattle.purse.proofs.Bools.{which}
use Rattle.refusals.specs.Heads.{head_of}
use Rattle.refusals.specs.Numbers.{from_number as fromAt, to_number as to_at, deliver_number as deliverAt, abort_number as abortAt, collect_number as collectAt, load_number as loadAt}
use Rattle.refusals.proofs.SameNumbers.{same_from, same_to, same_deliver, same_abort, same_collect, same_load}
use Rattle.turns.specs.declared.Turned.{Turned}
use Rattle.turns.specs.Turns.{unless_at, turn_from, turn_to, delivered_at, turn_deliver, aborted_at, turn_abort, turn_collect, turn_load}
use Rattle.card.specs.Act.{answered_by, act_by}

module _ (p : Purse) where
  -- put together where the step is done, else as it was
  put-unless : (n k : ℕ) (t : Turned) → n ≡ k → unless n p (answered_by p t) ≡ answered_by p (unless_at k (head_of p) t)
  put-unless n k t e =
      rw e
      (⊎_elim
      (λ (z : eqb k 0 ≡ true). rw z)
      (λ (z : eqb k 0 ≡ false). rw z)
      (which (eqb k 0)))

  put-delivered : (k : ℕ) → delivered p k ≡ answered_by p (delivered_at (head_of p) k)
  put-delivered k =
      ⊎_elim
      (λ (a : eqb k 1 ≡ true). rw a)
      (λ (a : eqb k 1 ≡ false).
      rw a
      (⊎_elim
      (λ (b : eqb k 2 ≡ true). rw b)
      (λ (b : eqb k 2 ≡ false). rw b)
      (which (eqb k 2))))
      (which (eqb k 1))

  put-aborted : done (aborted p) zero_message zero_details ≡ answered_by p (aborted_at (head_of p))
  put-aborted =
      ⊎_elim
      (λ (a : eqb p.status 0 ≡ true). rw a)
      (λ (a : eqb p.status 0 ≡ false).
      rw a
      (⊎_elim
      (λ (b : eqb p.status 1 ≡ true). rw b)
      (λ (b : eqb p.status 1 ≡ false). rw b)
      (which (eqb p.status 1))))
      (which (eqb p.status 0))

module _ (own : Name) (p : Purse) (w : well_formed own p ≡ true) where
  pub step_act : (e : CardEvent) → step_by p own e ≡ act_by p own e
  unfolding start_from turn_from start_to turn_to deliver_to turn_deliver abort_by turn_abort collect_by turn_collect load_by turn_load
  step_act (StartFrom other s a) = put-unless p (from_number p own other a) (fromAt (head_of p) own other a) _ (same_from own p w other a)
  step_act (StartTo other s a) = put-unless p (to_number p own other a) (to_at (head_of p) own other a) _ (same_to own p w other a)
  step_act (Deliver m) =
      ap (unless (deliver_number p own m) p) (put-delivered p m.kind)
      ∙ put-unless p (deliver_number p own m) (deliverAt (head_of p) own m) (delivered_at (head_of p) m.kind) (same_deliver own p w m)
  step_act Abort =
      ap (unless (abort_number p own) p) (put-aborted p)
      ∙ put-unless p (abort_number p own) (abortAt (head_of p) own) (aborted_at (head_of p)) (same_abort own p w)
  step_act Collect = put-unless p (collect_number p own) (collectAt (head_of p) own) _ (same_collect own p w)
  step_act (Load a) = put-unless p (load_number p own a) (loadAt (head_of p) own a) _ (same_load own p w a)

refused_ill : (own : Name) (p : Purse) → well_formed own p ≡ false → (e : CardEvent) → step_by p own e ≡ refused_by 2 p
unfolding start_from from_number start_to to_number deliver_to deliver_number abort_by abort_number collect_by collect_number load_by load_number
refused_ill own p w (StartFrom other s a) = rw w
refused_ill own p w (StartTo other s a) = rw w
refused_ill own p w (Deliver m) = rw w
refused_ill own p w Abort = rw w
refused_ill own p w Collect = rw w
refused_ill own p w (Load a) = rw w

-- the card's step: the record's test, then the act
pub step_by_act : (p : Purse) (own : Name) (e : CardEvent) → step_by p own e ≡ cond (well_formed own p) (act_by p own e) (refused_by 2 p)
step_by_act p own e =
    ⊎_elim
    (λ (w : well_formed own p ≡ true). rw w (step_act own p w e))
    (λ (w : well_formed own p ≡ false). rw w (refused_ill own p w e))
    (which (well_formed own p))
