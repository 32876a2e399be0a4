-- What the bench promises, on one page: for every list of balances that opens and every list of events, bytes of any content and length.
-- Each promise stands once for the bench as three lists and once for the lent table and the desk. All definitions that it cites are of
-- specs/; each proof is a citation.
-- Assumes nothing.
use Prim.Native.Nat.{ℕ, ◌+◌, ◌≤◌, ◌<◌}
use mathlib.Core.Path.{◌≡◌, refl}
use mathlib.Core.Bool.{true, false}
use mathlib.Core.List.{List, ◌++◌, map}
use lib.ListN.{length}
use lib.Dec.{ltb, eqb}
use Rattle.purse.specs.declared.Details.{Details}
use Rattle.purse.specs.Lists.{all, among, distinct, total, sum_to}
use Rattle.purse.specs.Tests.{first}
use Rattle.purse.specs.Details.{same_details}
use Rattle.desk.specs.declared.Held.{Held}
use Rattle.rules.specs.Bench.{Bench, purse_at, balance_at}
use Rattle.rules.specs.Table.{table_ok}
use Rattle.rules.specs.Events.{decoded}
use Rattle.rules.specs.Steps.{touched, step}
use Rattle.rules.specs.Run.{opening_number, opened, run, answers}
use Rattle.rules.specs.Paid.{paid, arrived, added, amount_of, sum_of, paid_out, taken_in, added_to, matched, claims, abort_of}
use Rattle.rules.specs.Laid.{laid, seen, held_ok, held_step, held_run, held_answers, held_opening, held_claims}
use Rattle.rules.specs.HeldPaid.{held_purse, held_balance, held_paid, held_arrived, held_added}
use Rattle.rules.specs.Orders.{order, held_order}
use Rattle.rules.proofs.Kept.{keep-step}
use Rattle.rules.proofs.Orders.{answer-order}
use Rattle.rules.proofs.Refusals.{refused_same, others_same, run_grows}
use Rattle.rules.proofs.Opened.{opened_ok, opened_never_two}
use Rattle.rules.proofs.Claims.{matched_once, pairs_most, claims_most}
use Rattle.rules.proofs.Safe.{sum_safe, arrived-paid, paid_once, arrived_once, stopped_safe, stopped_owed, stops_done}
use Rattle.rules.proofs.Carried as lent

-- any bench, any event
module _ (b : Bench) (event : List ℕ) where
  -- a step keeps the rules of a table that obeys them
  pub step_keeps_the_rules : table_ok b ≡ true → table_ok (step b event).bench ≡ true
  step_keeps_the_rules = keep-step b event

  -- "Only the first that applies, in this order"
  pub first_that_applies : (step b event).answer ≡ first (order b event)
  first_that_applies = answer-order b event

  -- "Answers from 2 up [..] change nothing anywhere"
  pub refusal_changes_nothing : 2 ≤ (step b event).answer → (step b event).bench ≡ b
  refusal_changes_nothing = refused_same b event

  -- no purse changes but the one that the event names, or issues
  pub others_untouched : (p : ℕ) → among eqb p (touched b (decoded event)) ≡ false → purse_at (step b event).bench p ≡ purse_at b p
  others_untouched = others_same b event

-- the table's number of purses grows and never shrinks
pub purses_never_fewer : (b : Bench) (events : List (List ℕ)) → length b.purses ≤ length (run b events).purses
purses_never_fewer = run_grows

-- the claims figure of any table that obeys the rules: "every matched pair, wherever the two entries stand" (02, A1), each counted once; at
-- most 256 pairs, so that four bytes hold the figure
module _ (b : Bench) where
  pub claims_are_the_matched_pairs : claims b ≡ sum_to (length b.purses) (λ (p : ℕ). total amount_of (matched b p))
  unfolding claims
  claims_are_the_matched_pairs = refl

  pub each_pair_once : table_ok b ≡ true → (p : ℕ) → p < length b.purses → distinct same_details (matched b p) ≡ true
  each_pair_once = matched_once b

  pub few_pairs : table_ok b ≡ true → sum_to (length b.purses) (λ (p : ℕ). length (matched b p)) ≤ 256
  few_pairs = pairs_most b

  pub claims_fit : table_ok b ≡ true → claims b ≤ 1280000000
  claims_fit = claims_most b

-- an opened bench, after a list of events
module _ (balances : List ℕ) (events : List (List ℕ)) (opens : opening_number balances ≡ 0) where
  abbrev start : Bench
  start = opened balances

  pub opened_obeys_the_rules : table_ok start ≡ true
  opened_obeys_the_rules = opened_ok balances opens

  -- 2, "table not well formed", is never answered
  pub never_two : (event : List ℕ) → (step (run start events) event).answer ≡ 2 → ⊥
  never_two event = opened_never_two balances events event opens

  -- demand 3: at every moment the balances sum to no more than the opening sum, which takes in "issue balances and loads so far" (02, A5)
  pub sum_never_grows : sum_to (length (run start events).purses) (balance_at (run start events)) ≤ sum_to (length balances) (balance_at start) + total sum_of (added start events)
  sum_never_grows = sum_safe balances events opens

  -- nothing arrives that was not paid, nothing is paid twice, nothing arrives twice
  pub nothing_arrives_unpaid : (d : Details) → among same_details d (arrived start events) ≡ true → among same_details d (paid start events) ≡ true
  nothing_arrives_unpaid = arrived-paid balances events opens

  pub nothing_is_paid_twice : distinct same_details (paid start events) ≡ true
  nothing_is_paid_twice = paid_once balances events opens

  pub nothing_arrives_twice : distinct same_details (arrived start events) ≡ true
  nothing_arrives_twice = arrived_once balances events opens

  -- "To stop a purse is to give it an abort event": the stop of a purse of the table answers 0
  pub stops_are_done : (names : List ℕ) → all (λ (p : ℕ). ltb p (length (run start events).purses)) names ≡ true → answers (run start events) (map abort_of names) ≡ map (λ (p : ℕ). 0) names
  stops_are_done names in_table = stops_done balances events names opens in_table

  -- demand 3: stop every purse, in any order. Then, of each purse: its balance, what its matched log pairs record, and its payments that
  -- arrived, are its opening balance with its issue balance and loads, and the payments that arrived in it
  module _ (names : List ℕ) (every : (p : ℕ) → p < length (run start events).purses → among eqb p names ≡ true) where
    abbrev all_events : List (List ℕ)
    all_events = events ++ map abort_of names

    abbrev end : Bench
    end = run start all_events

    pub stopped_balances : (p : ℕ) → balance_at end p + total amount_of (matched end p) + paid_out p (arrived start all_events) ≡ balance_at start p + added_to p (added start all_events) + taken_in p (arrived start all_events)
    stopped_balances = stopped_safe balances events names opens every

    -- and, summed over all purses: the claims figure is what the balances lack of the opening sum
    pub stopped-claims : sum_to (length end.purses) (balance_at end) + claims end ≡ sum_to (length balances) (balance_at start) + total sum_of (added start all_events)
    stopped-claims = stopped_owed balances events names opens every

-- the same of the lent table and the desk: any, and any event
module _ (h : Held) (event : List ℕ) where
  pub lent_step_keeps_the_rules : held_ok h ≡ true → held_ok (held_step h event).held ≡ true
  lent_step_keeps_the_rules = lent.held_kept h event

  pub lent_first_that_applies : (held_step h event).answer ≡ first (held_order h event)
  lent_first_that_applies = lent.held_answer_order h event

  pub lent_refusal_changes_nothing : 2 ≤ (held_step h event).answer → (held_step h event).held ≡ h
  lent_refusal_changes_nothing = lent.held_refused_same h event

  pub lent_others_untouched : (p : ℕ) → among eqb p (touched (seen h) (decoded event)) ≡ false → held_purse (held_step h event).held p ≡ held_purse h p
  lent_others_untouched = lent.held_others_same h event

pub lent_purses_never_fewer : (h : Held) (events : List (List ℕ)) → h.desk.purses ≤ (held_run h events).desk.purses
lent_purses_never_fewer = lent.held_grows

module _ (h : Held) where
  pub lent_claims_are_the_matched_pairs : held_ok h ≡ true → (held_claims h).claims ≡ sum_to h.desk.purses (λ (p : ℕ). total amount_of (matched (seen h) p))
  lent_claims_are_the_matched_pairs = lent.held-matched h

  pub lent_claims_fit : (held_claims h).claims ≤ 1280000000
  lent_claims_fit = lent.held_claims_most h

-- whatever table and desk were lent to the opening, where it answers 0
module _ (before : Held) (balances : List ℕ) (events : List (List ℕ)) (opens : (held_opening before balances).answer ≡ 0) where
  abbrev lent_start : Held
  lent_start = (held_opening before balances).held

  -- it is the opened bench, laid out
  starts-laid : (held_opening before balances).held ≡ laid (opened balances)
  starts-laid = (lent.held_opens before balances opens).1

  opening : opening_number balances ≡ 0
  opening = (lent.held_opens before balances opens).0

  pub lent_obeys_the_rules : held_ok (held_run lent_start events) ≡ true
  lent_obeys_the_rules = rw starts-laid (lent.held_run_ok balances events opening)

  pub lent_never_two : (event : List ℕ) → (held_step (held_run lent_start events) event).answer ≡ 2 → ⊥
  lent_never_two event = lent.held_never_two (held_run lent_start events) event lent_obeys_the_rules

  pub lent_sum_never_grows : sum_to (held_run lent_start events).desk.purses (held_balance (held_run lent_start events)) ≤ sum_to (length balances) (held_balance lent_start) + total sum_of (held_added lent_start events)
  lent_sum_never_grows = rw starts-laid (lent.held_sum_safe balances events opening)

  pub lent_nothing_arrives_unpaid : (d : Details) → among same_details d (held_arrived lent_start events) ≡ true → among same_details d (held_paid lent_start events) ≡ true
  lent_nothing_arrives_unpaid = rw starts-laid (lent.held_arrived_paid balances events opening)

  pub lent_nothing_is_paid_twice : distinct same_details (held_paid lent_start events) ≡ true
  lent_nothing_is_paid_twice = rw starts-laid (lent.held_paid_once balances events opening)

  pub lent_nothing_arrives_twice : distinct same_details (held_arrived lent_start events) ≡ true
  lent_nothing_arrives_twice = rw starts-laid (lent.held_arrived_once balances events opening)

  pub lent_stops_are_done : (names : List ℕ) → all (λ (p : ℕ). ltb p (held_run lent_start events).desk.purses) names ≡ true → held_answers (held_run lent_start events) (map abort_of names) ≡ map (λ (p : ℕ). 0) names
  lent_stops_are_done = rw starts-laid (lent.held_stops_done balances events opening)

  module _ (names : List ℕ) (every : (p : ℕ) → p < (held_run lent_start events).desk.purses → among eqb p names ≡ true) where
    abbrev lent_all_events : List (List ℕ)
    lent_all_events = events ++ map abort_of names

    abbrev lent_end : Held
    lent_end = held_run lent_start lent_all_events

    pub lent_stopped_balances : (p : ℕ) → held_balance lent_end p + total amount_of (matched (seen lent_end) p) + paid_out p (held_arrived lent_start lent_all_events) ≡ held_balance lent_start p + added_to p (held_added lent_start lent_all_events) + taken_in p (held_arrived lent_start lent_all_events)
    lent_stopped_balances = rw starts-laid (lent.held_stopped_safe balances events names opening (λ p l. every p (rw starts-laid l)))

    pub lent_stopped_claims : sum_to lent_end.desk.purses (held_balance lent_end) + (held_claims lent_end).claims ≡ sum_to (length balances) (held_balance lent_start) + total sum_of (held_added lent_start lent_all_events)
    lent_stopped_claims = rw starts-laid (lent.held_stopped_owed balances events names opening (λ p l. every p (rw starts-laid l)))
