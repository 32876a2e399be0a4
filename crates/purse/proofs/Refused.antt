-- What a card answers, and that a refusal changes nothing and hands out nothing. The number of a list of tests is 0 or stands in the
-- list, and a step is done at 0 alone. Assumes nothing.
use Prim.Native.Nat.{ℕ, ◌+◌}
use mathlib.Core.Path.{◌≡◌, refl, sym, ◌∙◌}
use mathlib.Core.Bool.{Bool, true, false, not}
use mathlib.Core.Logic.{⊎_elim}
use mathlib.Core.List.{List, [], ◌∷◌, ◌++◌}
use lib.Dec.{ltb, eqb}
use borrow.Author.Tests.{eqb-true, eq-eqb}
use Rattle.purse.specs.declared.Name.{Name}
use Rattle.purse.specs.declared.Purse.{Purse}
use Rattle.purse.specs.declared.CardAnswer.{CardAnswer}
use Rattle.purse.specs.declared.CardEvent.{CardEvent}
use Rattle.purse.specs.declared.CardEvent.TheVariants.{StartFrom, StartTo, Deliver, Abort, Collect, Load}
use Rattle.purse.specs.Lists.{all, among}
use Rattle.purse.specs.Tests.{Test, ◌⇒◌, first}
use Rattle.purse.specs.Details.{legal}
use Rattle.purse.specs.Purse.{ceiling}
use Rattle.purse.specs.Step.{refused_by, unless, delivered, own_tests, start_tests, expected, from_number, to_number, deliver_number, abort_number, collect_number, start_from, start_to, deliver_to, abort_by, collect_by, raise_tests, load_number, load_by}
use Rattle.purse.specs.Card.{step_by}
use Rattle.purse.proofs.Bools.{and_l, and_r, which}

-- a card's numbers: "never 1, 3, 5 or 15"
abbrev pub card_numbers : List ℕ
card_numbers = 0 ∷ 2 ∷ 4 ∷ 6 ∷ 7 ∷ 8 ∷ 9 ∷ 10 ∷ 11 ∷ 12 ∷ 13 ∷ 14 ∷ []

abbrev pub answers : ℕ → Bool
answers n = among eqb n card_numbers

-- a list whose numbers are a card's finds one of them
pub first-answers : (ts : List Test) → all (λ (t : Test). answers t.number) ts ≡ true → answers (first ts) ≡ true
first-answers [] e = refl
first-answers (t ∷ ts) e =
    ⊎_elim
    (λ (a : t.applies ≡ true). rw a (and_l (answers t.number) (all (λ (s : Test). answers s.number) ts) e))
    (λ (a : t.applies ≡ false). rw a (first-answers ts (and_r (answers t.number) (all (λ (s : Test). answers s.number) ts) e)))
    (which t.applies)

-- the number that decides a step
unfoldable pub number_by : Purse → Name → CardEvent → ℕ
number_by p own (StartFrom other s a) = from_number p own other a
number_by p own (StartTo other s a) = to_number p own other a
number_by p own (Deliver m) = deliver_number p own m
number_by p own Abort = abort_number p own
number_by p own Collect = collect_number p own
number_by p own (Load a) = load_number p own a

pub number-answers : (p : Purse) (own : Name) (v : CardEvent) → answers (number_by p own v) ≡ true
unfolding number_by from_number to_number deliver_number abort_number collect_number load_number
number-answers p own (StartFrom other s a) = first-answers (start_tests p own other a ++ ((ltb p.balance.0 a.0 ⇒ 11) ∷ [])) refl
number-answers p own (StartTo other s a) = first-answers (start_tests p own other a ++ ((ltb (ceiling p) (p.balance.0 + a.0) ⇒ 12) ∷ [])) refl
number-answers p own (Deliver m) = first-answers (own_tests p own ++ ((not (expected p m) ⇒ 13) ∷ [])) refl
number-answers p own Abort = first-answers (own_tests p own) refl
number-answers p own Collect = first-answers (own_tests p own ++ ((eqb p.logged 0 ⇒ 14) ∷ [])) refl
number-answers p own (Load a) = first-answers (own_tests p own ++ ((not (legal a) ⇒ 7) ∷ raise_tests p a)) refl

-- done where the number is 0, else refused by it
unless_either : (n : ℕ) (p : Purse) (a : CardAnswer) → a.answer ≡ 0 → ((unless n p a).answer ≡ n) × ((((unless n p a).answer ≡ 0) → ⊥) → unless n p a ≡ refused_by n p)
unless_either n p a z =
    ⊎_elim
    (λ (e : eqb n 0 ≡ true). (rw e (z ∙ sym (eqb-true n 0 e)), λ h. absurd (h (rw e z))))
    (λ (e : eqb n 0 ≡ false). (rw e refl, λ h. rw e refl))
    (which (eqb n 0))

-- a step that answers 0 is done
pub accepted : (n : ℕ) (p : Purse) (a : CardAnswer) → a.answer ≡ 0 → (unless n p a).answer ≡ 0 → (n ≡ 0) × (unless n p a ≡ a)
accepted n p a z e =
    let h : n ≡ 0 = sym (unless_either n p a z).0 ∙ e in
    (h, simp (eq-eqb n 0 h))

pub record Refuses (p : Purse) (n : ℕ) (a : CardAnswer) : Type 0 where
  pub number : a.answer ≡ n
  pub refused : (a.answer ≡ 0 → ⊥) → a ≡ refused_by n p

refuses : (n : ℕ) (p : Purse) (a : CardAnswer) → a.answer ≡ 0 → Refuses p n (unless n p a)
refuses n p a z =
    record { number = (unless_either n p a z).0; refused = (unless_either n p a z).1 }

pub delivered-done : (p : Purse) (k : ℕ) → (delivered p k).answer ≡ 0
delivered-done p k =
    ⊎_elim
    (λ (e : eqb k 1 ≡ true). rw e refl)
    (λ (e : eqb k 1 ≡ false). ⊎_elim (λ (f : eqb k 2 ≡ true). rw (e, f) refl) (λ (f : eqb k 2 ≡ false). rw (e, f) refl) (which (eqb k 2)))
    (which (eqb k 1))

-- every step: its number is the answer's, and where that is not 0 the purse is as it was and nothing is handed out
pub step_refuses : (p : Purse) (own : Name) (v : CardEvent) → Refuses p (number_by p own v) (step_by p own v)
unfolding number_by start_from start_to deliver_to abort_by collect_by load_by
step_refuses p own (StartFrom other s a) = refuses (from_number p own other a) p _ refl
step_refuses p own (StartTo other s a) = refuses (to_number p own other a) p _ refl
step_refuses p own (Deliver m) = refuses (deliver_number p own m) p _ (delivered-done p m.kind)
step_refuses p own Abort = refuses (abort_number p own) p _ refl
step_refuses p own Collect = refuses (collect_number p own) p _ refl
step_refuses p own (Load a) = refuses (load_number p own a) p _ refl

-- "never 1, 3, 5 or 15"
pub step-answers : (p : Purse) (own : Name) (v : CardEvent) → answers (step_by p own v).answer ≡ true
step-answers p own v = rw (step_refuses p own v).number (number-answers p own v)
