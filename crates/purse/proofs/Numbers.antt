-- Sequence numbers: an accepted start uses the purse's next number and raises it by 1; no other step changes it, so it never falls.
-- Read off the definitions. Assumes nothing.
use Prim.Native.Nat.{ℕ, ◌+◌, ◌≤◌}
use mathlib.Core.Path.{◌≡◌, refl}
use mathlib.Core.Bool.{Bool, true, false}
use mathlib.Core.Logic.{⊎_elim}
use lib.Dec.{eqb}
use native.Mathlib.Omega.{arith}
use Rattle.purse.specs.declared.Name.{Name}
use Rattle.purse.specs.declared.Seq.{Seq}
use Rattle.purse.specs.declared.Amount.{Amount}
use Rattle.purse.specs.declared.Purse.{Purse}
use Rattle.purse.specs.declared.CardAnswer.{CardAnswer}
use Rattle.purse.specs.declared.CardEvent.{CardEvent}
use Rattle.purse.specs.declared.CardEvent.TheVariants.{StartFrom, StartTo, Deliver, Abort, Collect, Load}
use Rattle.purse.specs.Purse.{epr, epv}
use Rattle.purse.specs.Step.{unless, begun_with, from_details, to_details, delivered, deliver_number, from_number, to_number, abort_number, collect_number, start_from, start_to, deliver_to, abort_by, collect_by, load_number, load_by}
use Rattle.purse.specs.Card.{step_by}
use Rattle.purse.proofs.Bools.{which}
use Rattle.purse.proofs.Refused.{accepted}
use Rattle.purse.proofs.Money.{unless_keeps, aborted_keeps}

abbrev pub starts : CardEvent → Bool
starts (StartFrom other s a) = true
starts (StartTo other s a) = true
starts (Deliver m) = false
starts Abort = false
starts Collect = false
starts (Load a) = false

-- an accepted start: the details' own number is the old next one, which grows by 1
module _ (p : Purse) (own other : Name) (s : Seq) (a : Amount) where
  pub from_begins : (start_from p own other s a).answer ≡ 0 → (start_from p own other s a).purse ≡ begun_with epr (from_details p own other s a) p
  unfolding start_from
  from_begins z = rw (accepted (from_number p own other a) p _ refl z).1

  pub to_begins : (start_to p own other s a).answer ≡ 0 → (start_to p own other s a).purse ≡ begun_with epv (to_details p own other s a) p
  unfolding start_to
  to_begins z = rw (accepted (to_number p own other a) p _ refl z).1

pub next_grows : (p : Purse) (own : Name) (v : CardEvent) → starts v ≡ true → (step_by p own v).answer ≡ 0 → (step_by p own v).purse.next.0 ≡ p.next.0 + 1
next_grows p own (StartFrom other s a) e z = rw (from_begins p own other s a z)
next_grows p own (StartTo other s a) e z = rw (to_begins p own other s a z)
next_grows p own (Deliver m) e z = absurd (let y : ◌≡◌ {A = ℕ} 0 1 = cc in omega arith)
next_grows p own Abort e z = absurd (let y : ◌≡◌ {A = ℕ} 0 1 = cc in omega arith)
next_grows p own Collect e z = absurd (let y : ◌≡◌ {A = ℕ} 0 1 = cc in omega arith)
next_grows p own (Load a) e z = absurd (let y : ◌≡◌ {A = ℕ} 0 1 = cc in omega arith)

delivered-next : (p : Purse) (k : ℕ) → (delivered p k).purse.next ≡ p.next
delivered-next p k =
    ⊎_elim
    (λ (a : eqb k 1 ≡ true). rw a refl)
    (λ (a : eqb k 1 ≡ false). ⊎_elim (λ (b : eqb k 2 ≡ true). rw (a, b) refl) (λ (b : eqb k 2 ≡ false). rw (a, b) refl) (which (eqb k 2)))
    (which (eqb k 1))

-- no other event changes it
pub next_stays : (p : Purse) (own : Name) (v : CardEvent) → starts v ≡ false → (step_by p own v).purse.next ≡ p.next
unfolding deliver_to abort_by collect_by load_by
next_stays p own (StartFrom other s a) e = absurd (let y : ◌≡◌ {A = ℕ} 0 1 = cc in omega arith)
next_stays p own (StartTo other s a) e = absurd (let y : ◌≡◌ {A = ℕ} 0 1 = cc in omega arith)
next_stays p own (Deliver m) e = unless_keeps (λ (q : Purse). q.next) p (deliver_number p own m) _ (delivered-next p m.kind)
next_stays p own Abort e = unless_keeps (λ (q : Purse). q.next) p (abort_number p own) _ (aborted_keeps (λ (q : Purse). q.next) p refl refl)
next_stays p own Collect e = unless_keeps (λ (q : Purse). q.next) p (collect_number p own) _ refl
next_stays p own (Load a) e = unless_keeps (λ (q : Purse). q.next) p (load_number p own a) _ refl

-- it never falls
unless_least : (n : ℕ) (p : Purse) (a : CardAnswer) → p.next.0 ≤ a.purse.next.0 → p.next.0 ≤ (unless n p a).purse.next.0
unless_least n p a h = ⊎_elim (λ (e : eqb n 0 ≡ true). rw e h) (λ (e : eqb n 0 ≡ false). rw e (omega arith)) (which (eqb n 0))

pub next_never_falls : (p : Purse) (own : Name) (v : CardEvent) → p.next.0 ≤ (step_by p own v).purse.next.0
unfolding start_from start_to
next_never_falls p own (StartFrom other s a) = unless_least (from_number p own other a) p _ (omega arith)
next_never_falls p own (StartTo other s a) = unless_least (to_number p own other a) p _ (omega arith)
next_never_falls p own (Deliver m) = rw (next_stays p own (Deliver m) refl) (omega arith)
next_never_falls p own Abort = rw (next_stays p own Abort refl) (omega arith)
next_never_falls p own Collect = rw (next_stays p own Collect refl) (omega arith)
next_never_falls p own (Load a) = rw (next_stays p own (Load a) refl) (omega arith)
