-- A step keeps a well-formed purse well formed.
-- Assumes nothing.
use Prim.Native.Nat.{ℕ, ◌+◌, ◌-◌, ◌≤◌, ◌<◌}
use mathlib.Core.Path.{◌≡◌, refl, ◌∙◌, sym}
use mathlib.Core.Bool.{Bool, true, false, ◌&&◌, ◌||◌, cond}
use mathlib.Core.Logic.{⊎_elim}
use mathlib.Core.List.{[], ◌∷◌}
use lib.ListN.{length, get_or, drop, set, length-set, length-drop, length-append, get_or-append}
use lib.Seq.{get_or-set_other, get_or-set_same, get_or-drop}
use lib.Dec.{ltb, leb, eqb}
use native.Mathlib.Omega.{arith}
use borrow.Author.Tests.{eqb-false, ltb-true, ltb-false, eqb-true, ne_eqb, le-leb}
use Rattle.purse.specs.declared.Name.{Name}
use Rattle.purse.specs.declared.Seq.{Seq}
use Rattle.purse.specs.declared.Amount.{Amount}
use Rattle.purse.specs.declared.Details.{Details}
use Rattle.purse.specs.declared.Message.{Message}
use Rattle.purse.specs.declared.Purse.{Purse}
use Rattle.purse.specs.declared.CardAnswer.{CardAnswer}
use Rattle.purse.specs.declared.CardEvent.{CardEvent}
use Rattle.purse.specs.declared.CardEvent.TheVariants.{StartFrom, StartTo, Deliver, Abort, Collect, Load}
use Rattle.purse.specs.Details.{zero_details, same_details, named, as_payer, as_payee, entry_ok}
use Rattle.purse.specs.Purse.{idle_ok, bounds_ok, pays_ok, gets_ok, busy_ok, log_ok, well_formed, epr, epv}
use Rattle.purse.specs.Step.{from_number, to_number, begun_with, idle_with, stopped, taken, moved_down, delivered, deliver_number, collect_number, start_from, start_to, deliver_to, abort_by, collect_by, from_details, to_details, aborted, abort_number, raised, load_number, load_by}
use Rattle.purse.specs.Card.{step_by}
use Rattle.purse.proofs.Bools.{and_l, and_r, no_and, or_l, either, and_i, or_inl, or_inr, which}
use Rattle.purse.proofs.Payments.{named_is, Legal, is_legal, same_sym, zero_same, payer_is, payee_is, fresh_payer, fresh_payee, fresh_zero, absent_at, absent_is}
use Rattle.purse.proofs.Log.{Used, with_these, log-kept, log_same, log_is, moved, log_long, used_at_lem, unused_at}
use Rattle.purse.proofs.Rules.{Bounds, bounds_is, well_busy, well_idle, busy_entry, idle_is, busy, idle, busy_parts, room, wf_log, wf_bounds}
use Rattle.purse.proofs.Steps.{expected_status, deliver_passed, deliver_get, collect_some, Raises, load_passed, Paying, Taking, ready_from, ready_to, within, beneath}

pub keep_from : (p : Purse) (own other : Name) (s : Seq) (a : Amount) → from_number p own other a ≡ 0 → well_formed own (begun_with epr (from_details p own other s a) p) ≡ true
unfolding busy_ok
keep_from p own other s a z =
    let r : Paying p own other a = ready_from p own other a z in
    let b : Bounds p = wf_bounds own p r.well in
    let g : Legal a = is_legal a r.amount in
    let d : Details = from_details p own other s a in
    let n : Seq = record { 0 = p.next.0 + 1 } in
    well_busy own (with_these p p.balance n 1 d)
    (record { balance = b.balance; next = omega arith; logged = b.logged })
    (and_i
    (and_i
    (named_is d (record { payer = r.own_name; payee = r.other_name; apart = λ h. r.apart (sym h); least = g.least; most = g.most }))
    (le-leb p.logged 7 (omega (arith, r.room))))
    (or_inl (pays_ok (with_these p p.balance n 1 d) && as_payer own n d) (gets_ok (with_these p p.balance n 1 d) && as_payee own n d)
    (and_i (or_inl _ false (le-leb _ _ (within p own other a r))) (payer_is own n d refl b.next (omega arith)))))
    (log-kept own p p.balance n 1 d (omega arith) (λ (e : Details) (h : entry_ok own p.next e ≡ true). fresh_payer own p.next d e refl r.apart h) (wf_log own p r.well))

pub keep_to : (p : Purse) (own other : Name) (s : Seq) (a : Amount) → to_number p own other a ≡ 0 → well_formed own (begun_with epv (to_details p own other s a) p) ≡ true
unfolding busy_ok
keep_to p own other s a z =
    let r : Taking p own other a = ready_to p own other a z in
    let b : Bounds p = wf_bounds own p r.well in
    let g : Legal a = is_legal a r.amount in
    let d : Details = to_details p own other s a in
    let n : Seq = record { 0 = p.next.0 + 1 } in
    well_busy own (with_these p p.balance n 2 d)
    (record { balance = b.balance; next = omega arith; logged = b.logged })
    (and_i
    (and_i
    (named_is d (record { payer = r.other_name; payee = r.own_name; apart = r.apart; least = g.least; most = g.most }))
    (le-leb p.logged 7 (omega (arith, r.room))))
    (or_inr (pays_ok (with_these p p.balance n 2 d) && as_payer own n d) (gets_ok (with_these p p.balance n 2 d) && as_payee own n d)
    (and_i (le-leb _ _ (beneath p own other a r)) (payee_is own n d refl b.next (omega arith)))))
    (log-kept own p p.balance n 2 d (omega arith) (λ (e : Details) (h : entry_ok own p.next e ≡ true). fresh_payee own p.next d e refl r.apart h) (wf_log own p r.well))

-- idle with any legal balance
pub keep-idle : (p : Purse) (own : Name) (b : Amount) → b.0 ≤ 5000000 → well_formed own p ≡ true → well_formed own (idle_with b p) ≡ true
unfolding idle_ok same_details
keep-idle p own b l w =
    let k : Bounds p = wf_bounds own p w in
    well_idle own (with_these p b p.next 0 zero_details)
    (record { balance = l; next = k.next; logged = k.logged })
    refl
    (log-kept own p b p.next 0 zero_details (omega arith) (λ (e : Details) (h : entry_ok own p.next e ≡ true). fresh_zero own p.next e h) (wf_log own p w))

-- a payer that has paid
pub keep-paid : (p : Purse) (own : Name) → p.status ≡ 1 → well_formed own p ≡ true → well_formed own (with_these p (record { 0 = p.balance.0 - p.details.amount.0 }) p.next 3 p.details) ≡ true
unfolding busy_ok
keep-paid p own s w =
    let k : Bounds p = wf_bounds own p w in
    let q : Purse = with_these p (record { 0 = p.balance.0 - p.details.amount.0 }) p.next 3 p.details in
    let h : busy_ok own p ≡ true = busy own p w (λ (z : p.status ≡ 0). omega arith) in
    let pays : (pays_ok p && as_payer own p.next p.details) ≡ true =
    or_l (pays_ok p && as_payer own p.next p.details) (gets_ok p && as_payee own p.next p.details)
    (busy_parts own p w (λ (z : p.status ≡ 0). omega arith))
    (no_and (gets_ok p) (as_payee own p.next p.details) (no_and (eqb p.status 2) (leb (p.balance.0 + p.details.amount.0) 5000000) (ne_eqb p.status 2 (λ (z : p.status ≡ 2). omega arith))))
    in
    well_busy own q
    (record { balance = omega (arith, k.balance); next = k.next; logged = k.logged })
    (and_i (and_l (named p.details && leb p.logged 7) (pays_ok p && as_payer own p.next p.details || gets_ok p && as_payee own p.next p.details) h)
    (or_inl (as_payer own p.next p.details) (gets_ok q && as_payee own p.next p.details) (and_r (pays_ok p) (as_payer own p.next p.details) pays)))
    (log_same own p q refl refl refl refl (wf_log own p w))

-- the details appended to the log
module _ (p : Purse) (own : Name) (s : p.status ≡ 0 → ⊥) (w : well_formed own p ≡ true) where
  stop_other : (i : ℕ) → (i ≡ p.logged → ⊥) → get_or (set p.log p.logged p.details) i zero_details ≡ get_or p.log i zero_details
  stop_other i n = get_or-set_other p.log p.logged i p.details zero_details n

  stop_here : get_or (set p.log p.logged p.details) p.logged zero_details ≡ p.details
  stop_here = get_or-set_same p.log p.logged p.details zero_details (omega (arith, log_long own p (wf_log own p w), room own p w s))

  stop_old : (i : ℕ) → i < p.logged → Used own (stopped p) i
  stop_old i l =
      let r : p.logged < 8 = room own p w s in
      let u : Used own p i = used_at_lem own p (wf_log own p w) i (omega arith) l in
      let e : get_or (set p.log p.logged p.details) i zero_details ≡ get_or p.log i zero_details = stop_other i (λ (z : i ≡ p.logged). omega arith) in
      record {
        below = omega arith;
        entry = rw e u.entry;
        other = rw e (fresh_zero own p.next (get_or p.log i zero_details) u.entry);
        alone =
            rw e
            (absent_is (set p.log p.logged p.details) (get_or p.log i zero_details) i (λ (j : ℕ) (g : j < i).
            rw (stop_other j (λ (z : j ≡ p.logged). omega arith)) (absent_at p.log (get_or p.log i zero_details) i j u.alone g)));
      }

  stop_new : Used own (stopped p) p.logged
  stop_new =
      let r : p.logged < 8 = room own p w s in
      let b : entry_ok own p.next p.details ≡ true = busy_entry own p (busy own p w s) in
      record {
        below = omega arith;
        entry = rw stop_here b;
        other = rw stop_here (fresh_zero own p.next p.details b);
        alone =
            rw stop_here
            (absent_is (set p.log p.logged p.details) p.details p.logged (λ (j : ℕ) (g : j < p.logged).
            rw (stop_other j (λ (z : j ≡ p.logged). omega arith))
            (same_sym p.details (get_or p.log j zero_details) (used_at_lem own p (wf_log own p w) j (omega arith) g).other)));
      }

  pub keep-stopped : well_formed own (stopped p) ≡ true
  keep-stopped =
      let k : Bounds p = wf_bounds own p w in
      let r : p.logged < 8 = room own p w s in
      let h : log_ok own p ≡ true = wf_log own p w in
      well_idle own (stopped p)
      (record { balance = k.balance; next = k.next; logged = omega arith })
      (idle_is (stopped p) refl refl)
      (log_is own (stopped p) (length-set p.log p.logged p.details ∙ log_long own p h)
      (λ (i : ℕ) (g : i < 8) (l : i < p.logged + 1).
      ⊎_elim
      (λ (a : ltb i p.logged ≡ true). stop_old i (ltb-true _ _ a))
      (λ (a : ltb i p.logged ≡ false).
      let b : p.logged ≤ i = ltb-false _ _ a in
      let e : i ≡ p.logged = omega arith in
      rw e stop_new)
      (which (ltb i p.logged)))
      (λ (i : ℕ) (g : i < 8) (l : p.logged + 1 ≤ i).
      rw (stop_other i (λ (z : i ≡ p.logged). omega arith)) (unused_at own p h i g (omega arith))))

-- the oldest entry taken out of the log
module _ (p : Purse) (own : Name) (o : 0 < p.logged) (w : well_formed own p ≡ true) where
  take_at : (i : ℕ) → i < 7 → get_or (moved_down p.log) i zero_details ≡ get_or p.log (1 + i) zero_details
  take_at i g =
      get_or-append (drop 1 p.log) (zero_details ∷ []) zero_details i (omega (arith, length-drop 1 p.log, log_long own p (wf_log own p w)))
      ∙ get_or-drop 1 p.log i zero_details

  take_end : get_or (moved_down p.log) 7 zero_details ≡ zero_details
  take_end = rw (← (moved p.log zero_details (log_long own p (wf_log own p w))))

  take_used : (i : ℕ) → i < 8 → i < p.logged - 1 → Used own (taken p) i
  take_used i g l =
      let k : Bounds p = wf_bounds own p w in
      let m : p.logged ≤ 8 = k.logged in
      let u : Used own p (1 + i) = used_at_lem own p (wf_log own p w) (1 + i) (omega arith) (omega arith) in
      let e : get_or (moved_down p.log) i zero_details ≡ get_or p.log (1 + i) zero_details = take_at i (omega arith) in
      record {
        below = l;
        entry = rw e u.entry;
        other = rw e u.other;
        alone =
            rw e
            (absent_is (moved_down p.log) (get_or p.log (1 + i) zero_details) i (λ (j : ℕ) (h : j < i).
            rw (take_at j (omega arith)) (absent_at p.log (get_or p.log (1 + i) zero_details) (1 + i) (1 + j) u.alone (omega arith))));
      }

  take-unused : (i : ℕ) → i < 8 → p.logged - 1 ≤ i → same_details (get_or (moved_down p.log) i zero_details) zero_details ≡ true
  take-unused i g l =
      ⊎_elim
      (λ (a : ltb i 7 ≡ true).
      let b : i < 7 = ltb-true _ _ a in
      rw (take_at i b) (unused_at own p (wf_log own p w) (1 + i) (omega arith) (omega arith)))
      (λ (a : ltb i 7 ≡ false).
      let b : 7 ≤ i = ltb-false _ _ a in
      let e : i ≡ 7 = omega arith in
      rw (e, take_end) zero_same)
      (which (ltb i 7))

  pub keep_taken : well_formed own (taken p) ≡ true
  unfolding well_formed busy_ok idle_ok
  keep_taken =
      let k : Bounds p = wf_bounds own p w in
      let m : p.logged ≤ 8 = k.logged in
      let t : length p.log ≡ 8 = log_long own p (wf_log own p w) in
      let rest : Bool = pays_ok p && as_payer own p.next p.details || gets_ok p && as_payee own p.next p.details in
      let lg : log_ok own (taken p) ≡ true =
      log_is own (taken p) (length-append (drop 1 p.log) (zero_details ∷ []) ∙ omega (arith, length-drop 1 p.log)) take_used take-unused
      in
      let bd : bounds_ok (taken p) ≡ true = bounds_is (taken p) (record { balance = k.balance; next = k.next; logged = omega arith }) in
      and_i
      (and_i bd
      (⊎_elim
      (λ (a : idle_ok p ≡ true). or_inl (idle_ok p) (busy_ok own (taken p)) a)
      (λ (a : busy_ok own p ≡ true).
      or_inr (idle_ok p) (busy_ok own (taken p))
      (and_i (and_i (and_l (named p.details) (leb p.logged 7) (and_l (named p.details && leb p.logged 7) rest a)) (le-leb (p.logged - 1) 7 (omega arith)))
      (and_r (named p.details && leb p.logged 7) rest a)))
      (either (idle_ok p) (busy_ok own p) (and_r (bounds_ok p) (idle_ok p || busy_ok own p) (and_l (bounds_ok p && (idle_ok p || busy_ok own p)) (log_ok own p) w)))))
      lg

-- an idle purse with a higher balance
pub keep-raised : (p : Purse) (own : Name) (a : Amount) → Raises p a → well_formed own p ≡ true → well_formed own (raised a p) ≡ true
unfolding idle_ok
keep-raised p own a r w =
    let k : Bounds p = wf_bounds own p w in
    well_idle own (raised a p)
    (record { balance = r.room; next = k.next; logged = k.logged })
    (idle own p w r.idle)
    (log_same own p (raised a p) refl refl refl refl (wf_log own p w))

-- each step: its number is 0 and the new purse is well formed, or it refuses and the purse is the same
pub by_number : (own : Name) (n : ℕ) (a b : CardAnswer) → (n ≡ 0 → well_formed own a.purse ≡ true) → well_formed own b.purse ≡ true → well_formed own (cond (eqb n 0) a b).purse ≡ true
by_number own n a b f g =
    ⊎_elim (λ (e : eqb n 0 ≡ true). rw e (f (eqb-true n 0 e))) (λ (e : eqb n 0 ≡ false). rw e g) (which (eqb n 0))

pub keep_start_from : (p : Purse) (own other : Name) (s : Seq) (a : Amount) → well_formed own p ≡ true → well_formed own (start_from p own other s a).purse ≡ true
unfolding start_from
keep_start_from p own other s a w = by_number own (from_number p own other a) _ _ (λ z. keep_from p own other s a z) w

pub keep_start_to : (p : Purse) (own other : Name) (s : Seq) (a : Amount) → well_formed own p ≡ true → well_formed own (start_to p own other s a).purse ≡ true
unfolding start_to
keep_start_to p own other s a w = by_number own (to_number p own other a) _ _ (λ z. keep_to p own other s a z) w

pub keep-delivered : (p : Purse) (own : Name) (m : Message) → deliver_number p own m ≡ 0 → well_formed own (delivered p m.kind).purse ≡ true
keep-delivered p own m z =
    let w : well_formed own p ≡ true = (deliver_passed p own m z).0 in
    let k : Bounds p = wf_bounds own p w in
    ⊎_elim
    (λ (a : eqb m.kind 1 ≡ true). rw a (keep-paid p own (expected_status p m 1 (deliver_passed p own m z).1 (eqb-true _ _ a)) w))
    (λ (a : eqb m.kind 1 ≡ false).
    ⊎_elim
    (λ (b : eqb m.kind 2 ≡ true). rw (a, b) (keep-idle p own (record { 0 = p.balance.0 + p.details.amount.0 }) (deliver_get p own m z (eqb-true _ _ b)) w))
    (λ (b : eqb m.kind 2 ≡ false). rw (a, b) (keep-idle p own p.balance k.balance w))
    (which (eqb m.kind 2)))
    (which (eqb m.kind 1))

pub keep_deliver : (p : Purse) (own : Name) (m : Message) → well_formed own p ≡ true → well_formed own (deliver_to p own m).purse ≡ true
unfolding deliver_to
keep_deliver p own m w = by_number own (deliver_number p own m) _ _ (λ z. keep-delivered p own m z) w

-- an abort: an idle purse stays as it is, one in epr is idle, any other has its details in the log
pub keep-aborted : (p : Purse) (own : Name) → well_formed own p ≡ true → well_formed own (aborted p) ≡ true
keep-aborted p own w =
    ⊎_elim
    (λ (a : eqb p.status 0 ≡ true). rw a w)
    (λ (a : eqb p.status 0 ≡ false).
    ⊎_elim
    (λ (b : eqb p.status 1 ≡ true). rw (a, b) (keep-idle p own p.balance (wf_bounds own p w).balance w))
    (λ (b : eqb p.status 1 ≡ false). rw (a, b) (keep-stopped p own (eqb-false p.status 0 a) w))
    (which (eqb p.status 1)))
    (which (eqb p.status 0))

pub keep_abort : (p : Purse) (own : Name) → well_formed own p ≡ true → well_formed own (abort_by p own).purse ≡ true
unfolding abort_by
keep_abort p own w = by_number own (abort_number p own) _ _ (λ z. keep-aborted p own w) w

pub keep_collect : (p : Purse) (own : Name) → well_formed own p ≡ true → well_formed own (collect_by p own).purse ≡ true
unfolding collect_by
keep_collect p own w = by_number own (collect_number p own) _ _ (λ z. keep_taken p own (collect_some p own z) w) w

pub keep_load : (p : Purse) (own : Name) (a : Amount) → well_formed own p ≡ true → well_formed own (load_by p own a).purse ≡ true
unfolding load_by
keep_load p own a w = by_number own (load_number p own a) _ _ (λ z. keep-raised p own a (load_passed p own a z) w) w

-- whatever a card is told, a well-formed purse stays well formed
pub keep-step : (p : Purse) (own : Name) (v : CardEvent) → well_formed own p ≡ true → well_formed own (step_by p own v).purse ≡ true
keep-step p own (StartFrom other s a) w = keep_start_from p own other s a w
keep-step p own (StartTo other s a) w = keep_start_to p own other s a w
keep-step p own (Deliver m) w = keep_deliver p own m w
keep-step p own Abort w = keep_abort p own w
keep-step p own Collect w = keep_collect p own w
keep-step p own (Load a) w = keep_load p own a w
