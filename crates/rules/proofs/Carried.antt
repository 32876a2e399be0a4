-- The theorems on lists hold of the lent table and the desk: a run of the code's step is the run on lists, laid out; its answers, and what
-- was paid and arrived, are those of the lists; so each theorem is carried over by rewriting.
-- Assumes nothing.
use Prim.Native.Nat.{ℕ, ◌+◌, ◌≤◌, ◌<◌}
use mathlib.Core.Path.{◌≡◌, refl, ◌∙◌, sym, ap, subst}
use mathlib.Core.Bool.{true, false, cond}
use mathlib.Core.Logic.{⊎_elim}
use mathlib.Core.List.{List, [], ◌∷◌, ◌++◌, map}
use lib.ListN.{length}
use lib.Dec.{ltb, leb, eqb}
use native.Mathlib.Omega.{arith}
use borrow.Author.Tests.{eqb-true, eqb-false}
use Rattle.purse.specs.declared.Details.{Details}
use Rattle.purse.specs.declared.Purse.{Purse}
use Rattle.purse.specs.Lists.{all, among, distinct, total, sum_to}
use Rattle.purse.specs.Tests.{first}
use Rattle.purse.specs.Details.{same_details}
use Rattle.purse.specs.Purse.{zero_purse}
use Rattle.purse.proofs.Bools.{which}
use Rattle.purse.proofs.Count.{sum_same}
use Rattle.purse.proofs.Padded.{read_anywhere}
use Rattle.desk.specs.declared.Held.{Held}
use Rattle.desk.specs.declared.Answered.{Answered}
use Rattle.rules.specs.Bench.{Bench, purse_at, balance_at}
use Rattle.rules.specs.Table.{table_ok}
use Rattle.rules.specs.Events.{decoded}
use Rattle.rules.specs.Steps.{touched, step}
use Rattle.rules.specs.Run.{opening_number, opened, run, answers}
use Rattle.rules.specs.Paid.{Effect, nothing, effect_of, effect_by, gathered, amount_of, sum_of, matched, claims, paid_out, taken_in, added_to, abort_of}
use Rattle.rules.specs.Laid.{laid, seen, is_zero_purse, held_ok, held_step, held_run, held_answers, held_opening, held_claims}
use Rattle.rules.specs.HeldPaid.{held_purse, held_balance, held_effect, held_gathered, held_paid, held_arrived, held_added}
use Rattle.rules.specs.Orders.{held_order}
use Rattle.rules.proofs.Facts.{is_table}
use Rattle.rules.proofs.Places.{places_used, seen-laid, obeys, laid-seen, seen_ok, held-laid, step-laid}
use Rattle.rules.proofs.Kept.{never, keep-step, keep_run}
use Rattle.rules.proofs.Orders.{event_order, never_two}
use Rattle.rules.proofs.Refusals.{refused_same, others_same, step_grows}
use Rattle.rules.proofs.Opened.{opened_ok}
use Rattle.rules.proofs.Claims.{claims_most}
use Rattle.rules.proofs.Safe.{sum_safe, arrived-paid, paid_once, arrived_once, stopped_safe, stopped_owed, stops_done}

-- a run on places is the run on lists
module _ (b : Bench) (l : List ℕ) (w : table_ok b ≡ true) where
  answer-laid : (held_step (laid b) l).answer ≡ (step b l).answer
  answer-laid = ap (λ (a : Answered). a.answer) (step-laid b l w)

  after-laid : (held_step (laid b) l).held ≡ laid (step b l).bench
  after-laid = ap (λ (a : Answered). a.held) (step-laid b l w)

pub run-laid : (b : Bench) (ls : List (List ℕ)) → table_ok b ≡ true → held_run (laid b) ls ≡ laid (run b ls)
run-laid b [] w = refl
run-laid b (l ∷ ls) w = ap (λ (h : Held). held_run h ls) (after-laid b l w) ∙ run-laid (step b l).bench ls (keep-step b l w)

pub answers-laid : (b : Bench) (ls : List (List ℕ)) → table_ok b ≡ true → held_answers (laid b) ls ≡ answers b ls
answers-laid b [] w = refl
answers-laid b (l ∷ ls) w =
    let e : (held_step (laid b) l).answer ≡ (step b l).answer = answer-laid b l w in
    let r : held_answers (held_step (laid b) l).held ls ≡ answers (step b l).bench ls =
    ap (λ (h : Held). held_answers h ls) (after-laid b l w) ∙ answers-laid (step b l).bench ls (keep-step b l w)
    in
    λ i. e i ∷ r i

pub gathered-laid : {A : Type 0} (part : Effect → List A) (b : Bench) (ls : List (List ℕ)) → table_ok b ≡ true → held_gathered part (laid b) ls ≡ gathered part b ls
unfolding effect_by
gathered-laid part b [] w = refl
gathered-laid {A} part b (l ∷ ls) w =
    let e : held_effect (laid b) l ≡ effect_by b l =
    λ i. cond (leb (answer-laid b l w i) 1) (effect_of (seen-laid b i) (decoded l)) nothing
    in
    let r : held_gathered part (held_step (laid b) l).held ls ≡ gathered part (step b l).bench ls =
    ap (λ (h : Held). held_gathered part h ls) (after-laid b l w) ∙ gathered-laid part (step b l).bench ls (keep-step b l w)
    in
    λ i. part (e i) ++ r i

-- what is read at a place of the table, used or not
purse-laid : (b : Bench) (p : ℕ) → held_purse (laid b) p ≡ purse_at b p
purse-laid b p = read_anywhere 32 zero_purse b.purses p

balance-laid : (b : Bench) (p : ℕ) → held_balance (laid b) p ≡ balance_at b p
balance-laid b p = ap (λ (q : Purse). q.balance.0) (purse-laid b p)

-- 2 leaves the table and the desk as they were
refused_two : (h : Held) (l : List ℕ) → held_ok h ≡ false → held_step h l ≡ record { answer = 2; held = h }
unfolding held_step
refused_two h l w = rw w

-- what holds of a step on lists laid out, and of a table that is left as it was, holds of every step
by_held : (h : Held) (l : List ℕ) (T : Held → Answered → Type 0) → (held_ok h ≡ false → T h (record { answer = 2; held = h })) → ((b : Bench) → table_ok b ≡ true → T (laid b) (record { answer = (step b l).answer; held = laid (step b l).bench })) → T h (held_step h l)
by_held h l T bad good =
    ⊎_elim
    (λ (w : held_ok h ≡ true).
    subst (λ (k : Held). T k (held_step k l)) (laid-seen h w) (rw (step-laid (seen h) l (seen_ok h w)) (good (seen h) (seen_ok h w))))
    (λ (w : held_ok h ≡ false). rw (refused_two h l w) (bad w))
    (which (held_ok h))

-- a step keeps the rules of a table and desk that obey them
pub held_kept : (h : Held) (l : List ℕ) → held_ok h ≡ true → held_ok (held_step h l).held ≡ true
held_kept h l =
    by_held h l (λ (h : Held) (a : Answered). held_ok h ≡ true → held_ok a.held ≡ true) (λ no ok. ok)
    (λ b w ok. held-laid (step b l).bench (keep-step b l w))

-- and never answers 2
pub held_never_two : (h : Held) (l : List ℕ) → held_ok h ≡ true → (held_step h l).answer ≡ 2 → ⊥
held_never_two h l =
    by_held h l (λ (h : Held) (a : Answered). held_ok h ≡ true → a.answer ≡ 2 → ⊥) (λ no ok. absurd (never _ ok no))
    (λ b w ok. never_two b l w)

-- any table and desk: the answer is the first test that applies, in document 01's order
pub held_answer_order : (h : Held) (l : List ℕ) → (held_step h l).answer ≡ first (held_order h l)
unfolding held_step
held_answer_order h l =
    ⊎_elim
    (λ (w : held_ok h ≡ true). rw w (event_order (seen h) (is_table (seen h) (seen_ok h w)) (decoded l)))
    (λ (w : held_ok h ≡ false). rw w)
    (which (held_ok h))

-- a refusal changes nothing
pub held_refused_same : (h : Held) (l : List ℕ) → 2 ≤ (held_step h l).answer → (held_step h l).held ≡ h
held_refused_same h l =
    by_held h l (λ (h : Held) (a : Answered). 2 ≤ a.answer → a.held ≡ h) (λ no high. refl)
    (λ b w high. ap laid (refused_same b l high))

-- and a record that the event does not touch stays as it is
pub held_others_same : (h : Held) (l : List ℕ) (k : ℕ) → among eqb k (touched (seen h) (decoded l)) ≡ false → held_purse (held_step h l).held k ≡ held_purse h k
held_others_same h l k =
    by_held h l (λ (h : Held) (a : Answered). among eqb k (touched (seen h) (decoded l)) ≡ false → held_purse a.held k ≡ held_purse h k) (λ no other. refl)
    (λ b w other.
    purse-laid (step b l).bench k
    ∙ (others_same b l k (ap (λ (c : Bench). among eqb k (touched c (decoded l))) (sym (seen-laid b)) ∙ other) ∙ sym (purse-laid b k)))

-- and no purse leaves the table
pub held_step_grows : (h : Held) (l : List ℕ) → h.desk.purses ≤ (held_step h l).held.desk.purses
held_step_grows h l =
    by_held h l (λ (h : Held) (a : Answered). h.desk.purses ≤ a.held.desk.purses) (λ no. omega arith) (λ b w. step_grows b l)

pub held_grows : (h : Held) (ls : List (List ℕ)) → h.desk.purses ≤ (held_run h ls).desk.purses
held_grows h [] = omega arith
held_grows h (l ∷ ls) = omega (arith, held_step_grows h l, held_grows (held_step h l).held ls)

-- opening: where it answers 0, the table and desk are the opened bench, laid out
pub held_opens : (h : Held) (bs : List ℕ) → (held_opening h bs).answer ≡ 0 → (opening_number bs ≡ 0) × ((held_opening h bs).held ≡ laid (opened bs))
unfolding held_opening
held_opens h bs =
    ⊎_elim
    (λ (e : eqb (length h.table) 32 ≡ true).
    ⊎_elim
    (λ (f : eqb (opening_number bs) 0 ≡ true). rw (e, f) (λ z. (eqb-true _ _ f, refl)))
    (λ (f : eqb (opening_number bs) 0 ≡ false). rw (e, f) (λ z. absurd (eqb-false _ _ f z)))
    (which (eqb (opening_number bs) 0)))
    (λ (e : eqb (length h.table) 32 ≡ false). rw e (λ z. absurd (omega (arith, z))))
    (which (eqb (length h.table) 32))

-- of every bench opened by the rules, after every list of events
module _ (bs : List ℕ) (es : List (List ℕ)) (ok : opening_number bs ≡ 0) where
  ran : held_run (laid (opened bs)) es ≡ laid (run (opened bs) es)
  ran = run-laid (opened bs) es (opened_ok bs ok)

  pub held_run_ok : held_ok (held_run (laid (opened bs)) es) ≡ true
  held_run_ok = rw ran (held-laid (run (opened bs) es) (keep_run (opened bs) es (opened_ok bs ok)))

  abbrev gather : {A : Type 0} (part : Effect → List A) → held_gathered part (laid (opened bs)) es ≡ gathered part (opened bs) es
  gather part = gathered-laid part (opened bs) es (opened_ok bs ok)

  pub held_sum_safe : sum_to (held_run (laid (opened bs)) es).desk.purses (held_balance (held_run (laid (opened bs)) es)) ≤ sum_to (length bs) (held_balance (laid (opened bs))) + total sum_of (held_added (laid (opened bs)) es)
  held_sum_safe =
      rw (ran, gather (λ (x : Effect). x.added))
      (omega (
        arith,
        sum_safe bs es ok,
        sum_same (length (run (opened bs) es).purses) (held_balance (laid (run (opened bs) es))) (balance_at (run (opened bs) es)) (λ (p : ℕ) (l : p < length (run (opened bs) es).purses). balance-laid (run (opened bs) es) p),
        sum_same (length bs) (held_balance (laid (opened bs))) (balance_at (opened bs)) (λ (p : ℕ) (l : p < length bs). balance-laid (opened bs) p),
      ))

  pub held_arrived_paid : (d : Details) → among same_details d (held_arrived (laid (opened bs)) es) ≡ true → among same_details d (held_paid (laid (opened bs)) es) ≡ true
  held_arrived_paid = rw (gather (λ (x : Effect). x.arrived), gather (λ (x : Effect). x.paid)) (arrived-paid bs es ok)

  pub held_paid_once : distinct same_details (held_paid (laid (opened bs)) es) ≡ true
  held_paid_once = rw (gather (λ (x : Effect). x.paid)) (paid_once bs es ok)

  pub held_arrived_once : distinct same_details (held_arrived (laid (opened bs)) es) ≡ true
  held_arrived_once = rw (gather (λ (x : Effect). x.arrived)) (arrived_once bs es ok)

  pub held_stops_done : (ps : List ℕ) → all (λ (p : ℕ). ltb p (held_run (laid (opened bs)) es).desk.purses) ps ≡ true → held_answers (held_run (laid (opened bs)) es) (map abort_of ps) ≡ map (λ (p : ℕ). 0) ps
  held_stops_done ps =
      rw (ran, answers-laid (run (opened bs) es) (map abort_of ps) (keep_run (opened bs) es (opened_ok bs ok))) (λ h. stops_done bs es ps ok h)

-- after an abort event to every purse that stands, in any order
module _ (bs : List ℕ) (es : List (List ℕ)) (ps : List ℕ) (ok : opening_number bs ≡ 0) (every : (p : ℕ) → p < (held_run (laid (opened bs)) es).desk.purses → among eqb p ps ≡ true) where
  abbrev c : Bench
  c = run (opened bs) (es ++ map abort_of ps)

  abbrev end : Held
  end = held_run (laid (opened bs)) (es ++ map abort_of ps)

  all_named : (p : ℕ) → p < length (run (opened bs) es).purses → among eqb p ps ≡ true
  all_named p l = every p (rw (ran bs es ok) l)

  pub held_stopped_safe : (p : ℕ) → held_balance end p + total amount_of (matched (seen end) p) + paid_out p (held_arrived (laid (opened bs)) (es ++ map abort_of ps)) ≡ held_balance (laid (opened bs)) p + added_to p (held_added (laid (opened bs)) (es ++ map abort_of ps)) + taken_in p (held_arrived (laid (opened bs)) (es ++ map abort_of ps))
  held_stopped_safe p =
      rw (ran bs (es ++ map abort_of ps) ok, gather bs (es ++ map abort_of ps) ok (λ (x : Effect). x.arrived), gather bs (es ++ map abort_of ps) ok (λ (x : Effect). x.added))
      (omega (arith, stopped_safe bs es ps ok all_named p, balance-laid c p, balance-laid (opened bs) p, ap (λ (b : Bench). total amount_of (matched b p)) (seen-laid c)))

  pub held_stopped_owed : sum_to end.desk.purses (held_balance end) + (held_claims end).claims ≡ sum_to (length bs) (held_balance (laid (opened bs))) + total sum_of (held_added (laid (opened bs)) (es ++ map abort_of ps))
  unfolding held_claims
  held_stopped_owed =
      rw (ran bs (es ++ map abort_of ps) ok, held-laid c (keep_run (opened bs) (es ++ map abort_of ps) (opened_ok bs ok)), gather bs (es ++ map abort_of ps) ok (λ (x : Effect). x.added))
      (omega (
        arith,
        stopped_owed bs es ps ok all_named,
        ap claims (seen-laid c),
        sum_same (length c.purses) (held_balance (laid c)) (balance_at c) (λ (p : ℕ) (l : p < length c.purses). balance-laid c p),
        sum_same (length bs) (held_balance (laid (opened bs))) (balance_at (opened bs)) (λ (p : ℕ) (l : p < length bs). balance-laid (opened bs) p),
      ))

-- the claims figure of any table and desk
module _ (h : Held) where
  pub held-matched : held_ok h ≡ true → (held_claims h).claims ≡ sum_to h.desk.purses (λ (p : ℕ). total amount_of (matched (seen h) p))
  unfolding held_claims claims
  held-matched w =
      rw w
      (ap (λ (n : ℕ). sum_to n (λ (p : ℕ). total amount_of (matched (seen h) p))) (places_used is_zero_purse 32 h.desk.purses h.table (obeys h w).purses))

  pub held_claims_most : (held_claims h).claims ≤ 1280000000
  unfolding held_claims
  held_claims_most =
      ⊎_elim (λ (w : held_ok h ≡ true). rw w (claims_most (seen h) (seen_ok h w))) (λ (w : held_ok h ≡ false). rw w (omega arith)) (which (held_ok h))
