-- Demand 3, of every bench that was opened by the rules and of every list of events.
-- The sum of the balances never exceeds the opening sum with what was issued and loaded; nothing arrives unpaid or twice; and once
-- every purse has been stopped, each purse has its opening balance and what was added to it, less what it paid that arrived, less what its
-- matched log pairs record, plus what arrived at it. So all balances and the claims figure are then the opening sum with what was added.
-- Assumes nothing.
use Prim.Native.Nat.{ℕ, zero, suc, ◌+◌, ◌≤◌, ◌<◌}
use mathlib.Core.Path.{◌≡◌, refl, ◌∙◌, sym, ap}
use mathlib.Core.Bool.{Bool, true, false, ◌&&◌, cond}
use mathlib.Core.Logic.{inl, ⊎_elim}
use mathlib.Core.List.{List, [], ◌∷◌, ◌++◌, map}
use lib.ListN.{length, length-map}
use lib.Dec.{ltb, eqb}
use native.Mathlib.Omega.{arith}
use borrow.Author.Tests.{ltb-true, ltb-false, eqb-true, ne_eqb, lt-ltb}
use Rattle.purse.specs.declared.Details.{Details}
use Rattle.purse.specs.declared.Purse.{Purse}
use Rattle.purse.specs.Details.{same_details}
use Rattle.purse.specs.Lists.{all, among, distinct, keep, total, sum_to}
use Rattle.purse.proofs.Bools.{which}
use Rattle.purse.proofs.Count.{bit, times_append, times_keep, times_among, among_times, apart_times, distinct_is, total_le, total_eq, total-append, all_is, sum_same, sum_add, sum_shares, sum_beyond}
use Rattle.rules.specs.Bench.{Bench, opened_at, purse_at, kept, archived_by, logged_by, is_at, balance_at}
use Rattle.rules.specs.Table.{table_ok}
use Rattle.rules.specs.Steps.{step}
use Rattle.rules.specs.Run.{opened, opening_number, run, answers}
use Rattle.rules.specs.Paid.{Addition, Effect, nothing, amount_of, sum_of, paid, arrived, added, matched_with, matched, claims, abort_of, paid_out, taken_in, added_to}
use Rattle.rules.proofs.Facts.{details_equal, details_same, count_d}
use Rattle.rules.proofs.Opened.{opened_ok}
use Rattle.rules.proofs.History.{epr, epa, epv, payer_log, payee_log, History, moved_by, history_run}
use Rattle.rules.proofs.Kept.{keep_run}
use Rattle.rules.proofs.Refusals.{run_grows}
use Rattle.rules.proofs.Stopped.{aborts_length, aborts_idle, aborts_done, beyond}

-- an opened bench has no history
quiet_purse : (bs : List ℕ) (k : ℕ) → ((purse_at (opened bs) k).status ≡ 0) × ((purse_at (opened bs) k).logged ≡ 0)
quiet_purse [] k = (refl, refl)
quiet_purse (x ∷ bs) zero = (refl, refl)
quiet_purse (x ∷ bs) (suc k) = quiet_purse bs k

none_kept : (q : Purse) (d : Details) → q.logged ≡ 0 → count_d d (kept q) ≡ 0
none_kept q d e = rw e

none_at : (q : Purse) (s : ℕ) (d : Details) → (q.status ≡ s → ⊥) → bit (is_at s q d) ≡ 0
none_at q s d h = rw (ne_eqb q.status s h)

idle_at_lem : (q : Purse) (s : ℕ) (d : Details) → q.status ≡ 0 → 1 ≤ s → bit (is_at s q d) ≡ 0
idle_at_lem q s d e l = none_at q s d (λ (y : q.status ≡ s). omega arith)

pub opened_history : (bs : List ℕ) → History (balance_at (opened bs)) (opened bs) nothing
opened_history bs =
    let no : (k s : ℕ) (d : Details) → 1 ≤ s → bit (is_at s (purse_at (opened bs) k) d) ≡ 0 = λ (k s : ℕ) (d : Details) (l : 1 ≤ s). idle_at_lem (purse_at (opened bs) k) s d (quiet_purse bs k).0 l in
    let nk : (k : ℕ) (d : Details) → count_d d (kept (purse_at (opened bs) k)) ≡ 0 = λ (k : ℕ) (d : Details). none_kept (purse_at (opened bs) k) d (quiet_purse bs k).1 in
    record {
      money = λ p. omega arith;
      placed = λ d l. absurd (omega arith);
      reach = refl;
      counts = λ (d : Details). omega (arith, no d.payer.0 1 d (omega arith), no d.payer.0 3 d (omega arith), no d.payee.0 2 d (omega arith), nk d.payer.0 d, nk d.payee.0 d);
      backed = λ m l. absurd (omega arith);
    }

-- from a history: the money in the purses
module _ (opening : ℕ → ℕ) (b : Bench) (s : Effect) (h : History opening b s) where
  abbrev P : List Details
  P = s.paid

  abbrev A : List Details
  A = s.arrived

  abbrev n : ℕ
  n = length b.purses

  -- payments that were paid, told by a purse that each names: each is told once
  by_name : (f : Details → ℕ) → ((d : Details) → 1 ≤ count_d d P → f d < n) → (l : List Details) → ((d : Details) → count_d d l ≤ count_d d P) → sum_to n (λ (p : ℕ). total amount_of (keep (λ (d : Details). eqb (f d) p) l)) ≡ total amount_of l
  by_name f placed l k =
      sum_shares amount_of f n l
      (all_is same_details details_equal details_same (λ (d : Details). ltb (f d) n) l (λ (d : Details) (c : 1 ≤ count_d d l). lt-ltb _ _ (placed d (omega (arith, k d)))))

  by_payers : (l : List Details) → ((d : Details) → count_d d l ≤ count_d d P) → sum_to n (λ (p : ℕ). paid_out p l) ≡ total amount_of l
  by_payers = by_name (λ (d : Details). d.payer.0) (λ (d : Details) (c : 1 ≤ count_d d P). (h.placed d c).payer)

  by_payees : (l : List Details) → ((d : Details) → count_d d l ≤ count_d d P) → sum_to n (λ (p : ℕ). taken_in p l) ≡ total amount_of l
  by_payees = by_name (λ (d : Details). d.payee.0) (λ (d : Details) (c : 1 ≤ count_d d P). (h.placed d c).payee)

  arrived_in : (d : Details) → count_d d A ≤ count_d d P
  arrived_in d = (h.counts d).within

  -- what came in, by the purse and from outside
  abbrev into : ℕ → ℕ
  into p = opening p + added_to p s.added + taken_in p A

  into_all : sum_to n into ≡ sum_to n opening + total sum_of s.added + total amount_of A
  into_all =
      omega (
        arith,
        by_payees A arrived_in,
        sum_shares sum_of (λ (x : Addition). x.purse) n s.added h.reach,
        sum_add n (λ (p : ℕ). opening p + added_to p s.added) (λ (p : ℕ). taken_in p A),
        sum_add n opening (λ (p : ℕ). added_to p s.added),
      )

  in_balance : sum_to n (balance_at b) + total amount_of P ≡ sum_to n opening + total sum_of s.added + total amount_of A
  in_balance =
      omega (
        arith,
        into_all,
        by_payers P (λ (d : Details). omega arith),
        sum_same n (λ (p : ℕ). balance_at b p + paid_out p P) into (λ p l. h.money p),
        sum_add n (balance_at b) (λ (p : ℕ). paid_out p P),
      )

  arrived_le : total amount_of A ≤ total amount_of P
  arrived_le = total_le same_details details_equal details_same amount_of A P arrived_in

  -- every purse idle: what a purse paid is what arrived of it and what its matched pairs record
  module _ (idle : (k : ℕ) → (purse_at b k).status ≡ 0) where
    matched_count : (p : ℕ) (d : Details) → count_d d (matched b p ++ keep (λ (d : Details). eqb d.payer.0 p) A) ≡ count_d d (keep (λ (d : Details). eqb d.payer.0 p) P)
    matched_count p d =
        let f : Details → Bool = λ (d : Details). eqb d.payer.0 p in
        let kp : count_d d (keep (λ (d : Details). eqb d.payer.0 p) P) ≡ cond (eqb d.payer.0 p) (count_d d P) 0 = times_keep same_details details_equal details_same (λ (d : Details). eqb d.payer.0 p) d P in
        let ka : count_d d (keep (λ (d : Details). eqb d.payer.0 p) A) ≡ cond (eqb d.payer.0 p) (count_d d A) 0 = times_keep same_details details_equal details_same (λ (d : Details). eqb d.payer.0 p) d A in
        let km : count_d d (matched b p) ≡ cond (eqb d.payer.0 p && among same_details d (logged_by b d.payee.0)) (count_d d (logged_by b p)) 0 = times_keep same_details details_equal details_same (matched_with b p) d (logged_by b p) in
        let sum : count_d d (matched b p ++ keep (λ (d : Details). eqb d.payer.0 p) A) ≡ count_d d (matched b p) + count_d d (keep (λ (d : Details). eqb d.payer.0 p) A) = times_append same_details d (matched b p) (keep (λ (d : Details). eqb d.payer.0 p) A) in
        let no1 : epr b d ≡ 0 = idle_at_lem (purse_at b d.payer.0) 1 d (idle d.payer.0) (omega arith) in
        let no3 : epa b d ≡ 0 = idle_at_lem (purse_at b d.payer.0) 3 d (idle d.payer.0) (omega arith) in
        let no2 : epv b d ≡ 0 = idle_at_lem (purse_at b d.payee.0) 2 d (idle d.payee.0) (omega arith) in
        ⊎_elim
        (λ (e : eqb d.payer.0 p ≡ true).
        let kp' : count_d d (keep (λ (d : Details). eqb d.payer.0 p) P) ≡ count_d d P = kp ∙ rw e in
        let ka' : count_d d (keep (λ (d : Details). eqb d.payer.0 p) A) ≡ count_d d A = ka ∙ rw e in
        let lp : count_d d (logged_by b p) ≡ payer_log b d = ap (λ (k : ℕ). count_d d (logged_by b k)) (sym (eqb-true d.payer.0 p e)) ∙ times_append same_details d (kept (purse_at b d.payer.0)) (archived_by d.payer.0 b.archive) in
        let le : count_d d (logged_by b d.payee.0) ≡ payee_log b d = times_append same_details d (kept (purse_at b d.payee.0)) (archived_by d.payee.0 b.archive) in
        ⊎_elim
        (λ (m : among same_details d (logged_by b d.payee.0) ≡ true).
        let km' : count_d d (matched b p) ≡ count_d d (logged_by b p) = km ∙ rw (e, m) in
        omega (arith, among_times same_details d (logged_by b d.payee.0) m, h.counts d))
        (λ (m : among same_details d (logged_by b d.payee.0) ≡ false).
        let km' : count_d d (matched b p) ≡ 0 = km ∙ rw (e, m) in
        omega (arith, apart_times same_details d (logged_by b d.payee.0) m, h.counts d))
        (which (among same_details d (logged_by b d.payee.0))))
        (λ (e : eqb d.payer.0 p ≡ false).
        let kp' : count_d d (keep (λ (d : Details). eqb d.payer.0 p) P) ≡ 0 = kp ∙ rw e in
        let ka' : count_d d (keep (λ (d : Details). eqb d.payer.0 p) A) ≡ 0 = ka ∙ rw e in
        let km' : count_d d (matched b p) ≡ 0 = km ∙ rw e in
        omega arith)
        (which (eqb d.payer.0 p))

    settled : (p : ℕ) → balance_at b p + total amount_of (matched b p) + paid_out p A ≡ opening p + added_to p s.added + taken_in p A
    settled p =
        let e : total amount_of (matched b p ++ keep (λ (d : Details). eqb d.payer.0 p) A) ≡ paid_out p P = total_eq same_details details_equal details_same amount_of (matched b p ++ keep (λ (d : Details). eqb d.payer.0 p) A) (keep (λ (d : Details). eqb d.payer.0 p) P) (matched_count p) in
        omega (arith, h.money p, total-append amount_of (matched b p) (keep (λ (d : Details). eqb d.payer.0 p) A))

    -- summed over the purses: what arrived went out of one balance and into one
    owed : sum_to n (balance_at b) + claims b ≡ sum_to n opening + total sum_of s.added
    unfolding claims
    owed =
        let m : ℕ → ℕ = λ (p : ℕ). total amount_of (matched b p) in
        omega (
          arith,
          into_all,
          sum_same n (λ (p : ℕ). balance_at b p + m p + paid_out p A) into (λ p l. settled p),
          sum_add n (λ (p : ℕ). balance_at b p + m p) (λ (p : ℕ). paid_out p A),
          sum_add n (balance_at b) m,
          by_payers A arrived_in,
        )

-- an opened bench holds nothing past its purses
pub opened_beyond : (bs : List ℕ) (p : ℕ) → length bs ≤ p → balance_at (opened bs) p ≡ 0
opened_beyond [] p l = refl
opened_beyond (x ∷ bs) zero l = absurd (omega arith)
opened_beyond (x ∷ bs) (suc p) l = opened_beyond bs p (omega arith)

-- of every bench opened by the rules, after every list of events
module _ (bs : List ℕ) (es : List (List ℕ)) (ok : opening_number bs ≡ 0) where
  the_history : History (balance_at (opened bs)) (run (opened bs) es) (moved_by (opened bs) es)
  the_history = history_run (balance_at (opened bs)) (opened bs) nothing es (opened_ok bs ok) (opened_history bs)

  the_opening : sum_to (length (run (opened bs) es).purses) (balance_at (opened bs)) ≡ sum_to (length bs) (balance_at (opened bs))
  the_opening =
      sum_beyond (length bs) (length (run (opened bs) es).purses) (balance_at (opened bs))
      (omega (arith, run_grows (opened bs) es, length-map bs opened_at))
      (opened_beyond bs)

  -- the balances, and what is paid and has not arrived, are the opening sum with what was issued and loaded
  pub sum_kept : sum_to (length (run (opened bs) es).purses) (balance_at (run (opened bs) es)) + total amount_of (paid (opened bs) es) ≡ sum_to (length bs) (balance_at (opened bs)) + total sum_of (added (opened bs) es) + total amount_of (arrived (opened bs) es)
  sum_kept = omega (arith, the_opening, in_balance (balance_at (opened bs)) (run (opened bs) es) (moved_by (opened bs) es) the_history)

  -- at every moment the sum of the balances is at most the opening sum with what was issued and loaded
  pub sum_safe : sum_to (length (run (opened bs) es).purses) (balance_at (run (opened bs) es)) ≤ sum_to (length bs) (balance_at (opened bs)) + total sum_of (added (opened bs) es)
  sum_safe = omega (arith, sum_kept, arrived_le (balance_at (opened bs)) (run (opened bs) es) (moved_by (opened bs) es) the_history)

  -- nothing arrives that was not paid
  pub arrived-paid : (d : Details) → among same_details d (arrived (opened bs) es) ≡ true → among same_details d (paid (opened bs) es) ≡ true
  arrived-paid d h =
      times_among same_details d (paid (opened bs) es)
      (omega (arith, among_times same_details d (arrived (opened bs) es) h, (the_history.counts d).within))

  -- nothing is paid twice, nothing arrives twice
  pub paid_once : distinct same_details (paid (opened bs) es) ≡ true
  paid_once = distinct_is same_details details_equal details_same (paid (opened bs) es) (λ (d : Details). omega (arith, (the_history.counts d).unpaid))

  pub arrived_once : distinct same_details (arrived (opened bs) es) ≡ true
  arrived_once = distinct_is same_details details_equal details_same (arrived (opened bs) es) (λ (d : Details). omega (arith, (the_history.counts d).due))

  -- every purse idle: each purse's balance, and all of them
  module _ (idle : (k : ℕ) → k < length (run (opened bs) es).purses → (purse_at (run (opened bs) es) k).status ≡ 0) where
    all-idle : (k : ℕ) → (purse_at (run (opened bs) es) k).status ≡ 0
    all-idle k =
        let n : ℕ = length (run (opened bs) es).purses in
        ⊎_elim
        (λ (e : ltb k n ≡ true). idle k (ltb-true _ _ e))
        (λ (e : ltb k n ≡ false). beyond (run (opened bs) es) k (ltb-false _ _ e))
        (which (ltb k n))

    pub idle_safe : (p : ℕ) → balance_at (run (opened bs) es) p + total amount_of (matched (run (opened bs) es) p) + paid_out p (arrived (opened bs) es) ≡ balance_at (opened bs) p + added_to p (added (opened bs) es) + taken_in p (arrived (opened bs) es)
    idle_safe = settled (balance_at (opened bs)) (run (opened bs) es) (moved_by (opened bs) es) the_history all-idle

    pub idle_owed : sum_to (length (run (opened bs) es).purses) (balance_at (run (opened bs) es)) + claims (run (opened bs) es) ≡ sum_to (length bs) (balance_at (opened bs)) + total sum_of (added (opened bs) es)
    idle_owed = omega (arith, the_opening, owed (balance_at (opened bs)) (run (opened bs) es) (moved_by (opened bs) es) the_history all-idle)

pub run-append : (b : Bench) (s t : List (List ℕ)) → run b (s ++ t) ≡ run (run b s) t
run-append b [] t = refl
run-append b (l ∷ s) t = run-append (step b l).bench s t

-- after an abort event to every purse that stands, in any order
module _ (bs : List ℕ) (es : List (List ℕ)) (ps : List ℕ) (ok : opening_number bs ≡ 0) (every : (p : ℕ) → p < length (run (opened bs) es).purses → among eqb p ps ≡ true) where
  abbrev all-stopped : Bench
  all-stopped = run (opened bs) (es ++ map abort_of ps)

  stopped-idle : (k : ℕ) → k < length all-stopped.purses → (purse_at all-stopped k).status ≡ 0
  stopped-idle k j =
      let w : table_ok (run (opened bs) es) ≡ true = keep_run (opened bs) es (opened_ok bs ok) in
      let n : length all-stopped.purses ≡ length (run (opened bs) es).purses =
      ap (λ (c : Bench). length c.purses) (run-append (opened bs) es (map abort_of ps)) ∙ aborts_length (run (opened bs) es) ps w
      in
      let i : k < length (run (opened bs) es).purses = omega arith in
      rw (run-append (opened bs) es (map abort_of ps)) (aborts_idle (run (opened bs) es) ps w k i (inl (every k i)))

  pub stopped_safe : (p : ℕ) → balance_at all-stopped p + total amount_of (matched all-stopped p) + paid_out p (arrived (opened bs) (es ++ map abort_of ps)) ≡ balance_at (opened bs) p + added_to p (added (opened bs) (es ++ map abort_of ps)) + taken_in p (arrived (opened bs) (es ++ map abort_of ps))
  stopped_safe = idle_safe bs (es ++ map abort_of ps) ok stopped-idle

  pub stopped_owed : sum_to (length all-stopped.purses) (balance_at all-stopped) + claims all-stopped ≡ sum_to (length bs) (balance_at (opened bs)) + total sum_of (added (opened bs) (es ++ map abort_of ps))
  stopped_owed = idle_owed bs (es ++ map abort_of ps) ok stopped-idle

-- each of those aborts is answered 0
pub stops_done : (bs : List ℕ) (es : List (List ℕ)) (ps : List ℕ) → opening_number bs ≡ 0 → all (λ (p : ℕ). ltb p (length (run (opened bs) es).purses)) ps ≡ true → answers (run (opened bs) es) (map abort_of ps) ≡ map (λ (p : ℕ). 0) ps
stops_done bs es ps ok h = aborts_done (run (opened bs) es) ps (keep_run (opened bs) es (opened_ok bs ok)) h
