-- What an answer says of what is left standing: a refusal changes nothing, no purse changes but the one that the event touches, and none
-- leaves the table. Of any bench, well formed or not: what is done puts one purse back or one behind the others, appends at most one
-- message or entry, or takes one message out.
-- Assumes nothing.
use Prim.Native.Nat.{ℕ, ◌≤◌}
use mathlib.Core.Path.{◌≡◌, refl, ◌∙◌, sym, ap}
use mathlib.Core.Bool.{Bool, true, false, not, cond}
use mathlib.Core.Logic.{⊎_elim}
use mathlib.Core.List.{List, [], ◌∷◌, ◌++◌}
use lib.ListN.{length, get_or, set, length-set}
use lib.Seq.{get_or-set_other}
use lib.Dec.{ltb, leb, eqb}
use native.Mathlib.Omega.{arith}
use borrow.Author.Tests.{eqb-false}
use Rattle.purse.specs.declared.Message.{Message}
use Rattle.purse.specs.declared.Purse.{Purse}
use Rattle.purse.specs.declared.CardAnswer.{CardAnswer}
use Rattle.purse.specs.declared.CardEvent.{CardEvent}
use Rattle.purse.specs.declared.CardEvent.TheVariants as card
use Rattle.purse.specs.Lists.{among, without}
use Rattle.purse.specs.Purse.{ceiling, zero_purse}
use Rattle.purse.proofs.Bools.{nor_l, which}
use Rattle.desk.specs.declared.Entry.{Entry}
use Rattle.rules.specs.declared.Event.{Event}
use Rattle.rules.specs.declared.Event.TheVariants.{Malformed, StartFrom, StartTo, Deliver, Abort, Lose, Collect, Issue, Load}
use Rattle.rules.specs.Bench.{Bench, called, opened_at, purse_at, message_at}
use Rattle.rules.specs.Table.{table_ok}
use Rattle.rules.specs.Events.{decoded}
use Rattle.rules.specs.Steps.{Answer, class_ok, refused, carried, archiving, told, no_purse, no_message, starting, delivering, acting, touched, step}
use Rattle.rules.specs.Run.{run}
use Rattle.rules.proofs.Puts.{new_replaced}

module _ (b : Bench) (T : Answer → Type 0) (no : (n : ℕ) → T (refused n b)) where
  -- what a step may leave: one purse put back, other messages, other entries
  abbrev Puts : ℕ → Type 0
  Puts p =
      (q : Purse) (ms : List Message) (es : List Entry) (n : ℕ) → n ≤ 1 → T (record { answer = n; bench = record { purses = set b.purses p q; messages = ms; archive = es } })

  or_refused : (x : Bool) (n : ℕ) (a : Answer) → T a → T (cond x (refused n b) a)
  or_refused true n a h = no n
  or_refused false n a h = h

  carried_by : (p : ℕ) (x : CardAnswer) → Puts p → T (carried b p x)
  carried_by p x put =
      ⊎_elim
      (λ (e : eqb x.answer 0 ≡ true).
      rw e
      (⊎_elim
      (λ (f : eqb x.message.kind 0 ≡ true). rw f (put x.purse b.messages b.archive 0 (omega arith)))
      (λ (f : eqb x.message.kind 0 ≡ false).
      rw f
      (⊎_elim
      (λ (g : ltb (length b.messages) 256 ≡ true). rw g (put x.purse (b.messages ++ (x.message ∷ [])) b.archive 0 (omega arith)))
      (λ (g : ltb (length b.messages) 256 ≡ false). rw g (put x.purse b.messages b.archive 1 (omega arith)))
      (which (ltb (length b.messages) 256))))
      (which (eqb x.message.kind 0))))
      (λ (e : eqb x.answer 0 ≡ false). rw e (no x.answer))
      (which (eqb x.answer 0))

  archiving_by : (p : ℕ) (x : CardAnswer) → Puts p → T (archiving b p x)
  archiving_by p x put =
      ⊎_elim
      (λ (e : eqb x.answer 0 ≡ true).
      rw e (or_refused (leb 256 (length b.archive)) 15 _ (put x.purse b.messages (b.archive ++ (record { by = called p; details = x.entry } ∷ [])) 0 (omega arith))))
      (λ (e : eqb x.answer 0 ≡ false). rw e (no x.answer))
      (which (eqb x.answer 0))

  starting_by : (p o : ℕ) (e : CardEvent) → Puts p → T (starting b p o e)
  starting_by p o e put = or_refused (no_purse b p) 4 _ (or_refused (no_purse b o) 6 _ (carried_by p (told b p e) put))

  delivering_by : (p i : ℕ) → Puts p → T (delivering b p i)
  delivering_by p i put =
      or_refused (no_purse b p) 4 _ (or_refused (no_message b i) 5 _ (carried_by p (told b p (card.Deliver (message_at b i))) put))

  -- what an event may leave: its purses put back, other messages, other entries; or a new purse
  abbrev Leaves : Event → Type 0
  Leaves e =
      (ps : List Purse) (ms : List Message) (es : List Entry) (n : ℕ) → n ≤ 1 → length b.purses ≤ length ps → ((k : ℕ) → among eqb k (touched b e) ≡ false → get_or ps k zero_purse ≡ purse_at b k) → T (record { answer = n; bench = record { purses = ps; messages = ms; archive = es } })

  one_put : (p k : ℕ) (q : Purse) → among eqb k (p ∷ []) ≡ false → get_or (set b.purses p q) k zero_purse ≡ purse_at b k
  one_put p k q h = get_or-set_other b.purses p k q zero_purse (eqb-false k p (nor_l (eqb k p) false h))

  put_by : (p : ℕ) (e : Event) → touched b e ≡ p ∷ [] → Leaves e → Puts p
  put_by p e z leaves q ms es n small =
      leaves (set b.purses p q) ms es n small (omega (arith, length-set b.purses p q)) (λ k h. one_put p k q (ap (among eqb k) (sym z) ∙ h))

  acting_by : (e : Event) → Leaves e → T (acting b e)
  unfolding acting
  acting_by Malformed leaves = no 3
  acting_by (StartFrom p o s a) leaves = starting_by p.0 o.0 (card.StartFrom o s a) (put_by p.0 (StartFrom p o s a) refl leaves)
  acting_by (StartTo p o s a) leaves = starting_by p.0 o.0 (card.StartTo o s a) (put_by p.0 (StartTo p o s a) refl leaves)
  acting_by (Deliver p i) leaves = delivering_by p.0 i (put_by p.0 (Deliver p i) refl leaves)
  acting_by (Abort p) leaves = or_refused (no_purse b p.0) 4 _ (carried_by p.0 (told b p.0 card.Abort) (put_by p.0 (Abort p) refl leaves))
  acting_by (Lose i) leaves = or_refused (no_message b i) 5 _ (leaves b.purses (without i b.messages) b.archive 0 (omega arith) (omega arith) (λ k h. refl))
  acting_by (Collect p) leaves = or_refused (no_purse b p.0) 4 _ (archiving_by p.0 (told b p.0 card.Collect) (put_by p.0 (Collect p) refl leaves))
  acting_by (Issue class v) leaves =
      or_refused (leb 32 (length b.purses)) 24 _
      (or_refused (not (class_ok class)) 22 _
      (or_refused (ltb (ceiling (opened_at v.0)) v.0) 21 _
      (leaves (b.purses ++ (opened_at v.0 ∷ [])) b.messages b.archive 0 (omega arith) (new_replaced b (opened_at v.0)).more (λ k h.
      (new_replaced b (opened_at v.0)).other k (eqb-false k (length b.purses) (nor_l (eqb k (length b.purses)) false h))))))
  acting_by (Load p a) leaves = or_refused (no_purse b p.0) 4 _ (carried_by p.0 (told b p.0 (card.Load a)) (put_by p.0 (Load p a) refl leaves))

  step_by_lem : (l : List ℕ) → Leaves (decoded l) → T (step b l)
  unfolding step
  step_by_lem l leaves =
      ⊎_elim
      (λ (w : table_ok b ≡ true). rw w (acting_by (decoded l) leaves))
      (λ (w : table_ok b ≡ false). rw w (no 2))
      (which (table_ok b))

-- "Answers from 2 up change nothing anywhere"
pub refused_same : (b : Bench) (l : List ℕ) → 2 ≤ (step b l).answer → (step b l).bench ≡ b
refused_same b l =
    step_by_lem b (λ (a : Answer). 2 ≤ a.answer → a.bench ≡ b) (λ n h. refl) l
    (λ ps ms es n small more same h. absurd (omega arith))

-- a purse that the event does not touch stays as it is
pub others_same : (b : Bench) (l : List ℕ) (k : ℕ) → among eqb k (touched b (decoded l)) ≡ false → purse_at (step b l).bench k ≡ purse_at b k
others_same b l k other =
    step_by_lem b (λ (a : Answer). purse_at a.bench k ≡ purse_at b k) (λ n. refl) l
    (λ ps ms es n small more same. same k other)

-- no purse leaves the table
pub step_grows : (b : Bench) (l : List ℕ) → length b.purses ≤ length (step b l).bench.purses
step_grows b l =
    step_by_lem b (λ (a : Answer). length b.purses ≤ length a.bench.purses) (λ n. omega arith) l
    (λ ps ms es n small more same. more)

pub run_grows : (b : Bench) (ls : List (List ℕ)) → length b.purses ≤ length (run b ls).purses
run_grows b [] = omega arith
run_grows b (l ∷ ls) = omega (arith, step_grows b l, run_grows (step b l).bench ls)
