-- The step's answer is the first that applies of document 01's list for the event's kind. At a table that is well formed two tests of the
-- card fall away: a record that breaks a rule (2), and a name above 31 (4, 6).
-- Assumes nothing.
use Prim.Native.Nat.{ℕ, ◌<◌}
use mathlib.Core.Path.{◌≡◌, refl, ◌∙◌, sym}
use mathlib.Core.Bool.{true, false, ◌&&◌, not, cond}
use mathlib.Core.Logic.{⊎_elim}
use mathlib.Core.List.{List, [], ◌∷◌, ◌++◌}
use lib.ListN.{length}
use lib.Dec.{ltb, leb, eqb}
use native.Mathlib.Omega.{arith}
use borrow.Author.Tests.{leb-true, leb-false, eqb-true, eqb-false, eq-eqb, ne_eqb, le-ltb, lt-ltb, lt-leb}
use Rattle.purse.specs.declared.Name.{Name}
use Rattle.purse.specs.declared.Seq.{Seq}
use Rattle.purse.specs.declared.Amount.{Amount}
use Rattle.purse.specs.declared.Message.{Message}
use Rattle.purse.specs.Lists.{all}
use Rattle.purse.specs.Tests.{Test, ◌⇒◌, first}
use Rattle.purse.specs.Details.{acknowledge, zero_message, same_message}
use Rattle.purse.specs.Purse.{ceiling}
use Rattle.purse.specs.Step as card
use Rattle.purse.specs.Step.{from_number, to_number, deliver_number, abort_number, collect_number, delivered, deliver_to, abort_by, collect_by, load_number, load_by}
use Rattle.purse.proofs.Bools.{which}
use Rattle.purse.proofs.Count.{times_at}
use Rattle.rules.specs.declared.Event.{Event}
use Rattle.rules.specs.declared.Event.TheVariants.{Malformed, StartFrom, StartTo, Deliver, Abort, Lose, Collect, Issue, Load}
use Rattle.rules.specs.Bench.{Bench, opened_at, purse_at, message_at}
use Rattle.rules.specs.Table.{table_ok}
use Rattle.rules.specs.Events.{decoded}
use Rattle.rules.specs.Steps.{Answer, class_ok, carried, archiving, acting, step, no_purse, no_message}
use Rattle.rules.specs.Orders.{full, from_tests, to_tests, deliver_tests, load_tests, tests_of, order}
use Rattle.rules.proofs.Ladders.{first-append, first_not}
use Rattle.rules.proofs.Facts.{message_equal, message_same, MessageOk, Table, is_table}
use Rattle.rules.proofs.Moves.{by_card, by_test}

-- the answer where a message is sent
room : (b : Bench) (A B : Answer) → A.answer ≡ 0 → B.answer ≡ 1 → (cond (ltb (length b.messages) 256) A B).answer ≡ cond (full b) 1 0
room b A B ea eb =
    ⊎_elim
    (λ (e : full b ≡ true). rw (e, le-ltb (length b.messages) 256 (leb-true _ _ e)) eb)
    (λ (e : full b ≡ false). rw (e, lt-ltb (length b.messages) 256 (leb-false _ _ e)) ea)
    (which (full b))

-- the card's number first, and where it is 0 the number of what is left
then_first : (n : ℕ) (ts us : List Test) → all (λ (t : Test). leb 2 t.number) ts ≡ true → n ≡ first ts → cond (eqb n 0) (first us) n ≡ first (ts ++ us)
then_first n ts us h e = rw e (sym (first-append ts us h))

module _ (b : Bench) (t : Table b) where
  -- a name of the table is at most 31
  low : (p : ℕ) → p < length b.purses → ltb 31 p ≡ false
  low p h = le-ltb 31 p (omega (arith, t.few))

  there : (p : ℕ) → p < length b.purses → no_purse b p ≡ false
  there p h = lt-leb (length b.purses) p h

  from_number_lem : (p o : Name) (a : Amount) → p.0 < length b.purses → o.0 < length b.purses → from_number (purse_at b p.0) p o a ≡ first (from_tests b p o a)
  unfolding from_number
  from_number_lem p o a hp ho = rw (t.well p.0 hp, low p.0 hp, low o.0 ho, there p.0 hp, there o.0 ho)

  to_number_lem : (p o : Name) (a : Amount) → p.0 < length b.purses → o.0 < length b.purses → to_number (purse_at b p.0) p o a ≡ first (to_tests b p o a)
  unfolding to_number
  to_number_lem p o a hp ho = rw (t.well p.0 hp, low p.0 hp, low o.0 ho, there p.0 hp, there o.0 ho)

  deliver_number_lem : (p : Name) (i : ℕ) → p.0 < length b.purses → i < length b.messages → deliver_number (purse_at b p.0) p (message_at b i) ≡ first (deliver_tests b p i)
  unfolding deliver_number
  deliver_number_lem p i hp hi = rw (t.well p.0 hp, low p.0 hp, there p.0 hp, lt-leb (length b.messages) i hi)

  load_number_lem : (p : Name) (a : Amount) → p.0 < length b.purses → load_number (purse_at b p.0) p a ≡ first (load_tests b p a)
  unfolding load_number
  load_number_lem p a hp = rw (t.well p.0 hp, low p.0 hp, there p.0 hp)

  from_order : (p o : Name) (s : Seq) (a : Amount) → p.0 < length b.purses → o.0 < length b.purses → (carried b p.0 (card.start_from (purse_at b p.0) p o s a)).answer ≡ first (tests_of b (StartFrom p o s a))
  unfolding card.start_from
  from_order p o s a hp ho =
      by_card b (λ (x : Answer). x.answer ≡ from_number (purse_at b p.0) p o a) p.0 (from_number (purse_at b p.0) p o a) _ (λ z. sym z) (λ z. refl)
      ∙ from_number_lem p o a hp ho

  to_order : (p o : Name) (s : Seq) (a : Amount) → p.0 < length b.purses → o.0 < length b.purses → (carried b p.0 (card.start_to (purse_at b p.0) p o s a)).answer ≡ first (tests_of b (StartTo p o s a))
  unfolding card.start_to
  to_order p o s a hp ho =
      by_card b (λ (x : Answer). x.answer ≡ cond (eqb (to_number (purse_at b p.0) p o a) 0) (cond (full b) 1 0) (to_number (purse_at b p.0) p o a)) p.0 (to_number (purse_at b p.0) p o a) _
      (λ z. rw (eq-eqb _ 0 z) (room b _ _ refl refl))
      (λ z. rw (ne_eqb _ 0 z))
      ∙ then_first (to_number (purse_at b p.0) p o a) (to_tests b p o a) ((full b ⇒ 1) ∷ []) refl (to_number_lem p o a hp ho)

  -- a message that the card takes
  taken-order : (p : Name) (i : ℕ) → i < length b.messages → (carried b p.0 (delivered (purse_at b p.0) (message_at b i).kind)).answer ≡ cond (not (eqb (message_at b i).kind acknowledge) && full b) 1 0
  taken-order p i hi =
      let m : Message = message_at b i in
      let o : MessageOk b m = t.message m (times_at same_message message_equal message_same b.messages i zero_message hi) in
      ⊎_elim
      (λ (e : eqb (message_at b i).kind 1 ≡ true).
      let k : m.kind ≡ 1 = eqb-true _ _ e in
      rw (e, ne_eqb (message_at b i).kind 3 (λ (y : m.kind ≡ 3). omega arith)) (room b _ _ refl refl))
      (λ (e : eqb (message_at b i).kind 1 ≡ false).
      ⊎_elim
      (λ (f : eqb (message_at b i).kind 2 ≡ true).
      let k : m.kind ≡ 2 = eqb-true _ _ f in
      rw (e, f, ne_eqb (message_at b i).kind 3 (λ (y : m.kind ≡ 3). omega arith)) (room b _ _ refl refl))
      (λ (f : eqb (message_at b i).kind 2 ≡ false).
      let n1 : (m.kind ≡ 1 → ⊥) = eqb-false _ _ e in
      let n2 : (m.kind ≡ 2 → ⊥) = eqb-false _ _ f in
      rw (e, f, eq-eqb (message_at b i).kind 3 (omega (arith, o.low, o.high))))
      (which (eqb (message_at b i).kind 2)))
      (which (eqb (message_at b i).kind 1))

  deliver_order : (p : Name) (i : ℕ) → p.0 < length b.purses → i < length b.messages → (carried b p.0 (deliver_to (purse_at b p.0) p (message_at b i))).answer ≡ first (tests_of b (Deliver p i))
  unfolding deliver_to
  deliver_order p i hp hi =
      by_card b (λ (x : Answer). x.answer ≡ cond (eqb (deliver_number (purse_at b p.0) p (message_at b i)) 0) (cond (not (eqb (message_at b i).kind acknowledge) && full b) 1 0) (deliver_number (purse_at b p.0) p (message_at b i))) p.0 (deliver_number (purse_at b p.0) p (message_at b i)) (delivered (purse_at b p.0) (message_at b i).kind)
      (λ z. rw (eq-eqb _ 0 z) (taken-order p i hi))
      (λ z. rw (ne_eqb _ 0 z))
      ∙ then_first (deliver_number (purse_at b p.0) p (message_at b i)) (deliver_tests b p i) ((not (eqb (message_at b i).kind acknowledge) && full b ⇒ 1) ∷ []) refl (deliver_number_lem p i hp hi)

  abort_order : (p : Name) → p.0 < length b.purses → (carried b p.0 (abort_by (purse_at b p.0) p)).answer ≡ first (tests_of b (Abort p))
  unfolding abort_by abort_number
  abort_order p hp = rw (t.well p.0 hp, low p.0 hp, there p.0 hp)

  collect_order : (p : Name) → p.0 < length b.purses → (archiving b p.0 (collect_by (purse_at b p.0) p)).answer ≡ first (tests_of b (Collect p))
  unfolding collect_by collect_number
  collect_order p hp =
      rw (t.well p.0 hp, low p.0 hp, there p.0 hp)
      (⊎_elim
      (λ (e : eqb (purse_at b p.0).logged 0 ≡ true). rw e)
      (λ (e : eqb (purse_at b p.0).logged 0 ≡ false).
      rw e
      (⊎_elim
      (λ (f : leb 256 (length b.archive) ≡ true). rw f)
      (λ (f : leb 256 (length b.archive) ≡ false). rw f)
      (which (leb 256 (length b.archive)))))
      (which (eqb (purse_at b p.0).logged 0)))

  load_order : (p : Name) (a : Amount) → p.0 < length b.purses → (carried b p.0 (load_by (purse_at b p.0) p a)).answer ≡ first (tests_of b (Load p a))
  unfolding load_by
  load_order p a hp =
      by_card b (λ (x : Answer). x.answer ≡ load_number (purse_at b p.0) p a) p.0 (load_number (purse_at b p.0) p a) _ (λ z. sym z) (λ z. refl)
      ∙ load_number_lem p a hp

  -- a well-formed bench, by the kind of event
  pub event_order : (e : Event) → (acting b e).answer ≡ first (tests_of b e)
  unfolding acting
  event_order Malformed = refl
  event_order (StartFrom p o s a) =
      by_test b (λ (x : Answer). x.answer ≡ first (tests_of b (StartFrom p o s a))) (no_purse b p.0) 4 _ (λ e. rw e) (λ hp.
      by_test b (λ (x : Answer). x.answer ≡ first (tests_of b (StartFrom p o s a))) (no_purse b o.0) 6 _ (λ e. rw (hp, e)) (λ ho.
      from_order p o s a (leb-false _ _ hp) (leb-false _ _ ho)))
  event_order (StartTo p o s a) =
      by_test b (λ (x : Answer). x.answer ≡ first (tests_of b (StartTo p o s a))) (no_purse b p.0) 4 _ (λ e. rw e) (λ hp.
      by_test b (λ (x : Answer). x.answer ≡ first (tests_of b (StartTo p o s a))) (no_purse b o.0) 6 _ (λ e. rw (hp, e)) (λ ho.
      to_order p o s a (leb-false _ _ hp) (leb-false _ _ ho)))
  event_order (Deliver p i) =
      by_test b (λ (x : Answer). x.answer ≡ first (tests_of b (Deliver p i))) (no_purse b p.0) 4 _ (λ e. rw e) (λ hp.
      by_test b (λ (x : Answer). x.answer ≡ first (tests_of b (Deliver p i))) (no_message b i) 5 _ (λ e. rw (hp, e)) (λ hi.
      deliver_order p i (leb-false _ _ hp) (leb-false _ _ hi)))
  event_order (Abort p) =
      by_test b (λ (x : Answer). x.answer ≡ first (tests_of b (Abort p))) (no_purse b p.0) 4 _ (λ e. rw e) (λ hp. abort_order p (leb-false _ _ hp))
  event_order (Lose i) =
      by_test b (λ (x : Answer). x.answer ≡ first (tests_of b (Lose i))) (no_message b i) 5 _ (λ e. rw e) (λ hi. rw hi)
  event_order (Collect p) =
      by_test b (λ (x : Answer). x.answer ≡ first (tests_of b (Collect p))) (no_purse b p.0) 4 _ (λ e. rw e) (λ hp. collect_order p (leb-false _ _ hp))
  event_order (Issue class v) =
      by_test b (λ (x : Answer). x.answer ≡ first (tests_of b (Issue class v))) (leb 32 (length b.purses)) 24 _ (λ e. rw e) (λ e.
      by_test b (λ (x : Answer). x.answer ≡ first (tests_of b (Issue class v))) (not (class_ok class)) 22 _ (λ f. rw (e, f)) (λ f.
      by_test b (λ (x : Answer). x.answer ≡ first (tests_of b (Issue class v))) (ltb (ceiling (opened_at v.0)) v.0) 21 _ (λ g. rw (e, f, g)) (λ g. rw (e, f, g))))
  event_order (Load p a) =
      by_test b (λ (x : Answer). x.answer ≡ first (tests_of b (Load p a))) (no_purse b p.0) 4 _ (λ e. rw e) (λ hp. load_order p a (leb-false _ _ hp))

-- every bench, every event: the answer is the first that applies, in document 01's order
pub answer-order : (b : Bench) (l : List ℕ) → (step b l).answer ≡ first (order b l)
unfolding step
answer-order b l =
    ⊎_elim
    (λ (w : table_ok b ≡ true). rw w (event_order b (is_table b w) (decoded l)))
    (λ (w : table_ok b ≡ false). rw w)
    (which (table_ok b))

-- 2 stands in no list but for a table that is not well formed
not_two : (b : Bench) (e : Event) → all (λ (t : Test). not (eqb t.number 2)) (tests_of b e) ≡ true
not_two b Malformed = refl
not_two b (StartFrom p o s a) = refl
not_two b (StartTo p o s a) = refl
not_two b (Deliver p i) = refl
not_two b (Abort p) = refl
not_two b (Lose i) = refl
not_two b (Collect p) = refl
not_two b (Issue class v) = refl
not_two b (Load p a) = refl

-- so a well-formed bench never answers 2
pub never_two : (b : Bench) (l : List ℕ) → table_ok b ≡ true → (step b l).answer ≡ 2 → ⊥
never_two b l w e =
    first_not 2 (tests_of b (decoded l)) refl (not_two b (decoded l)) (rw w at (sym (answer-order b l) ∙ e))
