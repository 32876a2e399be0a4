-- The balance changes at a delivered request, a delivered value and a load alone, by the amount: what each accepted step does to it
-- is read off the definitions, and a refused one leaves the purse as it was. Assumes nothing.
use Prim.Native.Nat.{ℕ, ◌+◌}
use mathlib.Core.Path.{◌≡◌, refl, ◌∙◌, ap}
use mathlib.Core.Bool.{Bool, true, false}
use mathlib.Core.Logic.{⊎_elim}
use lib.Dec.{eqb}
use native.Mathlib.Omega.{arith}
use borrow.Author.Tests.{eq-eqb, ne_eqb}
use Rattle.purse.specs.declared.Name.{Name}
use Rattle.purse.specs.declared.Amount.{Amount}
use Rattle.purse.specs.declared.Message.{Message}
use Rattle.purse.specs.declared.Purse.{Purse}
use Rattle.purse.specs.declared.CardAnswer.{CardAnswer}
use Rattle.purse.specs.declared.CardEvent.{CardEvent}
use Rattle.purse.specs.declared.CardEvent.TheVariants.{StartFrom, StartTo, Deliver, Abort, Collect, Load}
use Rattle.purse.specs.Details.{same_details}
use Rattle.purse.specs.Step.{unless, expected, idle_with, stopped, aborted, paid, received, settled, delivered, deliver_number, from_number, to_number, abort_number, collect_number, start_from, start_to, deliver_to, abort_by, collect_by, load_number, load_by}
use Rattle.purse.specs.Card.{step_by}
use Rattle.purse.proofs.Bools.{and_l, which}
use Rattle.purse.proofs.Payments.{is_same}
use Rattle.purse.proofs.Steps.{deliver_passed, deliver_pay}
use Rattle.purse.proofs.Refused.{accepted, delivered-done}

-- what a field is after a step, where it is so after the step is done and after an abort's two ways
module _ {A : Type 0} (f : Purse → A) (p : Purse) where
  pub unless_keeps : (n : ℕ) (a : CardAnswer) → f a.purse ≡ f p → f (unless n p a).purse ≡ f p
  unless_keeps n a h = ⊎_elim (λ (e : eqb n 0 ≡ true). rw e h) (λ (e : eqb n 0 ≡ false). rw e refl) (which (eqb n 0))

  pub aborted_keeps : f (idle_with p.balance p) ≡ f p → f (stopped p) ≡ f p → f (aborted p) ≡ f p
  aborted_keeps g h =
      ⊎_elim
      (λ (a : eqb p.status 0 ≡ true). rw a refl)
      (λ (a : eqb p.status 0 ≡ false).
      ⊎_elim (λ (b : eqb p.status 1 ≡ true). rw (a, b) g) (λ (b : eqb p.status 1 ≡ false). rw (a, b) h) (which (eqb p.status 1)))
      (which (eqb p.status 0))

-- a delivery and a load
abbrev pub moves : CardEvent → Bool
moves (StartFrom other s a) = false
moves (StartTo other s a) = false
moves (Deliver m) = true
moves Abort = false
moves Collect = false
moves (Load a) = true

-- no other event changes the balance, done or refused
pub balance_stays : (p : Purse) (own : Name) (v : CardEvent) → moves v ≡ false → (step_by p own v).purse.balance ≡ p.balance
unfolding start_from start_to abort_by collect_by
balance_stays p own (StartFrom other s a) e = unless_keeps (λ (q : Purse). q.balance) p (from_number p own other a) _ refl
balance_stays p own (StartTo other s a) e = unless_keeps (λ (q : Purse). q.balance) p (to_number p own other a) _ refl
balance_stays p own (Deliver m) e = absurd (let z : ◌≡◌ {A = ℕ} 0 1 = cc in omega arith)
balance_stays p own Abort e =
    unless_keeps (λ (q : Purse). q.balance) p (abort_number p own) _ (aborted_keeps (λ (q : Purse). q.balance) p refl refl)
balance_stays p own Collect e = unless_keeps (λ (q : Purse). q.balance) p (collect_number p own) _ refl
balance_stays p own (Load a) e = absurd (let z : ◌≡◌ {A = ℕ} 0 1 = cc in omega arith)

-- a delivery that is done
module _ (p : Purse) (own : Name) (m : Message) (z : (deliver_to p own m).answer ≡ 0) where
  done_delivery : (deliver_number p own m ≡ 0) × (deliver_to p own m ≡ delivered p m.kind)
  unfolding deliver_to
  done_delivery = accepted (deliver_number p own m) p (delivered p m.kind) (delivered-done p m.kind) z

  -- the amount is the message's
  same_amount : p.details.amount.0 ≡ m.details.amount.0
  unfolding expected
  same_amount = (is_same p.details m.details (and_l (same_details p.details m.details) _ (deliver_passed p own m done_delivery.0).1)).amount

  -- a request: the balance falls by the amount
  pub request_pays : m.kind ≡ 1 → (deliver_to p own m).purse.balance.0 + m.details.amount.0 ≡ p.balance.0
  request_pays k =
      let e : deliver_to p own m ≡ paid p = done_delivery.1 ∙ simp (eq-eqb m.kind 1 k) in
      rw e (omega (arith, same_amount, deliver_pay p own m done_delivery.0 k))

  -- a value: the balance rises by the amount
  pub value_arrives : m.kind ≡ 2 → (deliver_to p own m).purse.balance.0 ≡ p.balance.0 + m.details.amount.0
  value_arrives k =
      let e : deliver_to p own m ≡ received p = done_delivery.1 ∙ simp (ne_eqb m.kind 1 (λ (h : m.kind ≡ 1). omega arith), eq-eqb m.kind 2 k) in
      rw e (omega (arith, same_amount))

  -- an acknowledge moves no money
  pub acknowledge_moves_none : (m.kind ≡ 1 → ⊥) → (m.kind ≡ 2 → ⊥) → (deliver_to p own m).purse.balance ≡ p.balance
  acknowledge_moves_none a b =
      let e : deliver_to p own m ≡ settled p = done_delivery.1 ∙ simp (ne_eqb m.kind 1 a, ne_eqb m.kind 2 b) in
      rw e refl

-- a load that is done: the balance rises by the amount
pub load_raises : (p : Purse) (own : Name) (a : Amount) → (load_by p own a).answer ≡ 0 → (load_by p own a).purse.balance.0 ≡ p.balance.0 + a.0
unfolding load_by
load_raises p own a z = ap (λ (x : CardAnswer). x.purse.balance.0) (accepted (load_number p own a) p _ refl z).1
