-- Each move keeps the table's rules, so each step does.
-- Assumes nothing.
use Prim.Native.Nat.{ℕ, ◌+◌, ◌≤◌, ◌<◌}
use mathlib.Core.Path.{◌≡◌, refl, ◌∙◌, sym, ap}
use mathlib.Core.Bool.{Bool, true, false}
use mathlib.Core.Logic.{inl, inr, ⊎_elim}
use mathlib.Core.List.{List, [], ◌∷◌, ◌++◌}
use lib.ListN.{length, get_or, length-append, get_or-eq_default}
use lib.Seq.{get_or-set_same}
use lib.Dec.{leb}
use native.Mathlib.Omega.{arith}
use borrow.Author.Tests.{leb-true, leb-false, eq-eqb, ne_eqb}
use Rattle.purse.specs.declared.Name.{Name}
use Rattle.purse.specs.declared.Seq.{Seq}
use Rattle.purse.specs.declared.Amount.{Amount}
use Rattle.purse.specs.declared.Details.{Details}
use Rattle.purse.specs.declared.Message.{Message}
use Rattle.purse.specs.declared.Purse.{Purse}
use Rattle.purse.specs.Details.{request, value, acknowledge, zero_details, same_details, as_payer, as_payee, entry_ok}
use Rattle.purse.specs.Step.{idle_with, stopped, taken, raised}
use Rattle.purse.specs.Purse.{ceiling, zero_purse}
use Rattle.purse.proofs.Bools.{which, refute, and_i}
use Rattle.purse.proofs.Payments.{Same, is_same, as_payer_lem, as_payee_lem, entry_role, fresh_payer, fresh_payee}
use Rattle.purse.proofs.Rules.{wf_bounds, Bounds}
use Rattle.purse.proofs.Count.{none, bit, bit_le}
use Rattle.rules.specs.Bench.{Bench, called, opened_at, purse_at, running, kept, archived_by, is_at}
use Rattle.rules.specs.Table.{table_ok}
use Rattle.rules.specs.Steps.{with_purse, with_new, with_messages, with_archive, step}
use Rattle.rules.specs.Run.{run}
use Rattle.rules.specs.Paid.{Effect}
use Rattle.rules.proofs.Facts.{details_equal, details_same, count_d, count_m, InTable, MessageOk, ClearOk, EntryOk, Table, is_table, table_is}
use Rattle.rules.proofs.Puts.{in_later, message_later, entry_grown, grown_put, new_replaced, put_list, put-purse, put_message, lose_message, put_entry}
use Rattle.rules.proofs.Purses.{OwnPayer, OwnPayee, payer_role, payee_role, busy_named, busy_apart, kept_entry, kept-stopped, kept-taken, well_opened}
use Rattle.rules.proofs.Moves.{from_of, to_of, message_of, begun_from, begun_to, payer_after, payee_after, Started, Taking, Sent, Good, Moves, step_moves}

-- no Bool is both
pub never : (x : Bool) → x ≡ true → x ≡ false → ⊥
never x p q = let z : ◌≡◌ {A = ℕ} 0 1 = cc in omega arith

-- running details of a busy purse
pub running_busy : (q : Purse) (d : Details) → (q.status ≡ 0 → ⊥) → count_d d (running q) ≡ bit (same_details d q.details)
running_busy q d s = rw (ne_eqb q.status 0 s) (omega arith)

-- a purse is at its own status and details
pub at_own : (q : Purse) (k : ℕ) → q.status ≡ k → is_at k q q.details ≡ true
at_own q k s = and_i (eq-eqb _ _ s) (details_same q.details)

-- the message that answers one of the same payment, once the payer has used its number
answer_ok : {b : Bench} {j : ℕ} {d : Details} (k : ℕ) → 1 ≤ k → k ≤ 3 → MessageOk b (message_of j d) → (1 ≤ d.payerseq.0) × (d.payerseq.0 < (purse_at b d.payer.0).next.0) → MessageOk b (message_of k d)
answer_ok k low high m used =
    record {
      low = low;
      high = high;
      name = m.name;
      table = m.table;
      payee_low = m.payee_low;
      payee_high = m.payee_high;
      payer = inr used;
    }

module _ (b : Bench) (t : Table b) where
  -- what stands among a purse's own details is one of its entries
  pub own_entry : (p : ℕ) → p < length b.purses → (d : Details) → 1 ≤ count_d d (kept (purse_at b p)) + count_d d (archived_by p b.archive) → entry_ok (called p) (purse_at b p).next d ≡ true
  own_entry p hp d h =
      ⊎_elim
      (λ (e : leb 1 (count_d d (kept (purse_at b p))) ≡ true). kept_entry (called p) (purse_at b p) (t.well p hp) d (leb-true _ _ e))
      (λ (e : leb 1 (count_d d (kept (purse_at b p))) ≡ false). (t.entry p d (omega (arith, leb-false 1 (count_d d (kept (purse_at b p))) e))).entry)
      (which (leb 1 (count_d d (kept (purse_at b p)))))

  -- details with the purse's next number are none of its own
  pub fresh_from : (p : ℕ) (o : Name) (s : Seq) (a : Amount) → p < length b.purses → (p ≡ o.0 → ⊥) → count_d (from_of b p o s a) (kept (purse_at b p)) + count_d (from_of b p o s a) (archived_by p b.archive) ≡ 0
  fresh_from p o s a hp n =
      let d : Details = from_of b p o s a in
      none _ (λ (l : 1 ≤ count_d (from_of b p o s a) (kept (purse_at b p)) + count_d (from_of b p o s a) (archived_by p b.archive)).
      never (same_details d d) (details_same d) (fresh_payer (called p) (purse_at b p).next d d refl (λ (z : o.0 ≡ p). n (sym z)) (own_entry p hp d l)))

  pub fresh_to : (p : ℕ) (o : Name) (s : Seq) (a : Amount) → p < length b.purses → (o.0 ≡ p → ⊥) → count_d (to_of b p o s a) (kept (purse_at b p)) + count_d (to_of b p o s a) (archived_by p b.archive) ≡ 0
  fresh_to p o s a hp n =
      let d : Details = to_of b p o s a in
      none _ (λ (l : 1 ≤ count_d (to_of b p o s a) (kept (purse_at b p)) + count_d (to_of b p o s a) (archived_by p b.archive)).
      never (same_details d d) (details_same d) (fresh_payee (called p) (purse_at b p).next d d refl n (own_entry p hp d l)))

  -- the purse replaced by one that runs new details
  begun_names : (p : ℕ) (D : Details) → p < length b.purses → InTable b D → (d : Details) → 1 ≤ count_d d (D ∷ []) + count_d d (kept (purse_at b p)) → InTable b d
  begun_names p D hp i d h =
      ⊎_elim
      (λ (e : same_details d D ≡ true). rw (details_equal d D e) i)
      (λ (e : same_details d D ≡ false). let z : bit (same_details d D) ≡ 0 = rw e in t.names p hp d (omega arith))
      (which (same_details d D))

  begun_once : (p : ℕ) (D : Details) → p < length b.purses → count_d D (kept (purse_at b p)) + count_d D (archived_by p b.archive) ≡ 0 → (d : Details) → count_d d (D ∷ []) + (count_d d (kept (purse_at b p)) + count_d d (archived_by p b.archive)) ≤ 1
  begun_once p D hp z d =
      ⊎_elim
      (λ (e : same_details d D ≡ true).
      let y : count_d d (kept (purse_at b p)) + count_d d (archived_by p b.archive) ≡ 0 = rw (details_equal d D e) z in
      omega (arith, bit_le (same_details d D)))
      (λ (e : same_details d D ≡ false). let y : bit (same_details d D) ≡ 0 = rw e in omega (arith, t.once p hp d))
      (which (same_details d D))

  put_from : (p : ℕ) (o : Name) (s : Seq) (a : Amount) → Started b p o.0 → Good p (begun_from b p o s a) → Table (with_purse b p (begun_from b p o s a))
  put_from p o s a st w =
      let D : Details = from_of b p o s a in
      let apart : (p ≡ o.0 → ⊥) = busy_apart (called p) (begun_from b p o s a) w (λ (z : 1 ≡ 0). omega arith) in
      put-purse b p (begun_from b p o s a) st.here t
      (record {
        well = w;
        later = omega arith;
        names = begun_names p D st.here (record { payer = st.here; payee = st.other });
        once = begun_once p D st.here (fresh_from p o s a st.here apart);
        epr =
            λ m h e k.
            refute (same_details m.details D) (λ (x : same_details m.details D ≡ true).
            let f : Same m.details D = is_same m.details D x in
            let j : (purse_at b m.details.payer.0).next.0 ≡ (purse_at b p).next.0 = ap (λ (n : ℕ). (purse_at b n).next.0) e in
            ⊎_elim
            (λ (y : m.kind ≡ 1). omega arith)
            (λ (y : (1 ≤ m.details.payerseq.0) × (m.details.payerseq.0 < (purse_at b m.details.payer.0).next.0)). omega (arith, f.payerseq, y.1))
            (t.message m h).payer);
        epv = λ m h e k. refl;
      })

  put_to : (p : ℕ) (o : Name) (s : Seq) (a : Amount) → Started b p o.0 → Good p (begun_to b p o s a) → Table (with_purse b p (begun_to b p o s a))
  put_to p o s a st w =
      let D : Details = to_of b p o s a in
      let apart : (o.0 ≡ p → ⊥) = busy_apart (called p) (begun_to b p o s a) w (λ (z : 2 ≡ 0). omega arith) in
      put-purse b p (begun_to b p o s a) st.here t
      (record {
        well = w;
        later = omega arith;
        names = begun_names p D st.here (record { payer = st.other; payee = st.here });
        once = begun_once p D st.here (fresh_to p o s a st.here apart);
        epr = λ m h e k. refl;
        epv =
            λ m h e k.
            refute (same_details m.details D) (λ (x : same_details m.details D ≡ true).
            let f : Same m.details D = is_same m.details D x in
            let j : (purse_at b m.details.payee.0).next.0 ≡ (purse_at b p).next.0 = ap (λ (n : ℕ). (purse_at b n).next.0) e in
            omega (arith, f.payeeseq, (t.message m h).payee_high));
      })

  -- a message that was sent: lost, or put at the end
  sent : (c : Bench) (m : Message) (ms : List Message) → c.messages ≡ b.messages → Table c → Sent b m ms → MessageOk c m → count_m m b.messages ≡ 0 → ClearOk c m → Table (with_messages c ms)
  sent c m ms e tc s k z l =
      ⊎_elim
      (λ (f : ms ≡ b.messages). rw (f, ← e) tc)
      (λ (f : (ms ≡ b.messages ++ (m ∷ [])) × (length b.messages < 256)).
      rw (f.0, ← e) (put_message c m tc k (rw e z) l (rw e f.1)))
      s

  -- a purse that becomes idle, its log the same
  put-idle : (p : ℕ) (v : ℕ) → p < length b.purses → Good p (idle_with (record { 0 = v }) (purse_at b p)) → Table (with_purse b p (idle_with (record { 0 = v }) (purse_at b p)))
  put-idle p v hp w =
      put-purse b p (idle_with (record { 0 = v }) (purse_at b p)) hp t
      (record {
        well = w;
        later = omega arith;
        names = λ d h. t.names p hp d (omega arith);
        once = λ d. omega (arith, t.once p hp d);
        epr = λ m h e k. refl;
        epv = λ m h e k. refl;
      })

  put-paid : (p : ℕ) → Taking b p request → Good p (payer_after b p) → Table (with_purse b p (payer_after b p))
  put-paid p g w =
      let busy : ((purse_at b p).status ≡ 0 → ⊥) = λ (z : (purse_at b p).status ≡ 0). omega (arith, g.status) in
      put-purse b p (payer_after b p) g.here t
      (record {
        well = w;
        later = omega arith;
        names = λ d h. t.names p g.here d (omega (arith, running_busy (purse_at b p) d busy));
        once = λ d. omega (arith, t.once p g.here d, running_busy (purse_at b p) d busy);
        epr = λ m h e k. refl;
        epv = λ m h e k. refl;
      })

  put-stopped : (p : ℕ) → p < length b.purses → 2 ≤ (purse_at b p).status → Good p (stopped (purse_at b p)) → Table (with_purse b p (stopped (purse_at b p)))
  put-stopped p hp l w =
      let busy : ((purse_at b p).status ≡ 0 → ⊥) = λ (z : (purse_at b p).status ≡ 0). omega arith in
      let q : Purse = purse_at b p in
      put-purse b p (stopped (purse_at b p)) hp t
      (record {
        well = w;
        later = omega arith;
        names = λ d h. t.names p hp d (omega (arith, running_busy q d busy, kept-stopped (called p) q (t.well p hp) busy d));
        once = λ d. omega (arith, t.once p hp d, running_busy q d busy, kept-stopped (called p) q (t.well p hp) busy d);
        epr = λ m h e k. refl;
        epv = λ m h e k. refl;
      })

  put-taken : (p : ℕ) → p < length b.purses → 0 < (purse_at b p).logged → Good p (taken (purse_at b p)) → Table (with_purse b p (taken (purse_at b p)))
  put-taken p hp l w =
      let q : Purse = purse_at b p in
      put-purse b p (taken (purse_at b p)) hp t
      (record {
        well = w;
        later = omega arith;
        names = λ d h. t.names p hp d (omega (arith, kept-taken (called p) q (t.well p hp) l d));
        once = λ d. omega (arith, t.once p hp d, kept-taken (called p) q (t.well p hp) l d);
        epr = λ m h e k. ap (λ (n : ℕ). is_at 1 (purse_at b n) m.details) (sym e) ∙ (t.clear m h).epr k;
        epv = λ m h e k. ap (λ (n : ℕ). is_at 2 (purse_at b n) m.details) (sym e) ∙ (t.clear m h).epv k;
      })

  -- the balance higher, all else as it was
  put-raised : (p : ℕ) (a : Amount) → p < length b.purses → Good p (raised a (purse_at b p)) → Table (with_purse b p (raised a (purse_at b p)))
  put-raised p a hp w =
      put-purse b p (raised a (purse_at b p)) hp t
      (record {
        well = w;
        later = omega arith;
        names = t.names p hp;
        once = t.once p hp;
        epr = λ m h e k. ap (λ (n : ℕ). is_at 1 (purse_at b n) m.details) (sym e) ∙ (t.clear m h).epr k;
        epv = λ m h e k. ap (λ (n : ℕ). is_at 2 (purse_at b n) m.details) (sym e) ∙ (t.clear m h).epv k;
      })

  -- a purse that is not in the table has logged nothing
  unarchived : (n : ℕ) → length b.purses ≤ n → (d : Details) → count_d d (archived_by n b.archive) ≡ 0
  unarchived n hn d =
      none _ (λ (l : 1 ≤ count_d d (archived_by n b.archive)).
      let e : EntryOk b n d = t.entry n d l in
      ⊎_elim
      (λ (a : as_payer (called n) (purse_at b n).next d ≡ true). omega (arith, e.table.payer, (as_payer_lem (called n) (purse_at b n).next d a).0))
      (λ (a : as_payee (called n) (purse_at b n).next d ≡ true). omega (arith, e.table.payee, (as_payee_lem (called n) (purse_at b n).next d a).0))
      (entry_role (called n) (purse_at b n).next d e.entry))

  -- an opened purse at the next free place
  put_new : (v : ℕ) → length b.purses < 32 → v ≤ ceiling (opened_at v) → Table (with_new b v)
  put_new v few low =
      let n : ℕ = length b.purses in
      let end : length b.purses ≤ n = omega arith in
      put_list b n (opened_at v) (b.purses ++ (opened_at v ∷ [])) (new_replaced b (opened_at v)) (omega (arith, length-append b.purses (opened_at v ∷ []))) t
      (record {
        well = well_opened (called n) v low;
        later = rw (get_or-eq_default b.purses zero_purse end) (omega arith);
        names = λ d h. absurd (omega arith);
        once = λ d. omega (arith, unarchived n (omega arith) d);
        epr = λ m h e k. refl;
        epv = λ m h e k. refl;
      })

  here_after : (p : ℕ) (q : Purse) → p < length b.purses → purse_at (with_purse b p q) p ≡ q
  here_after p q hp = get_or-set_same b.purses p q zero_purse hp

  keep_to : (p : ℕ) (o : Name) (s : Seq) (a : Amount) → Started b p o.0 → Good p (begun_to b p o s a) → (ms : List Message) → Sent b (message_of request (to_of b p o s a)) ms → Table (with_messages (with_purse b p (begun_to b p o s a)) ms)
  keep_to p o s a st w ms x =
      let D : Details = to_of b p o s a in
      let c : Bench = with_purse b p (begun_to b p o s a) in
      let tc : Table c = put_to p o s a st w in
      let bd : Bounds (purse_at b p) = wf_bounds (called p) (purse_at b p) (t.well p st.here) in
      sent c (message_of request D) ms refl tc x
      (record {
        low = omega arith;
        high = omega arith;
        name = busy_named (called p) (begun_to b p o s a) w (λ (z : 2 ≡ 0). omega arith);
        table = in_later (grown_put b p (begun_to b p o s a) st.here (omega arith)) (record { payer = st.other; payee = st.here });
        payee_low = bd.next;
        payee_high = rw (here_after p (begun_to b p o s a) st.here) (omega arith);
        payer = inl refl;
      })
      (none _ (λ (l : 1 ≤ count_m (message_of request D) b.messages). let k : MessageOk b (message_of request D) = t.message (message_of request D) l in omega (arith, k.payee_high)))
      (record { epr = λ (k : 2 ≤ 1). absurd (omega arith); epv = λ (k : 1 ≡ 3). absurd (omega arith) })

  keep_pay : (p : ℕ) → Taking b p request → Good p (payer_after b p) → (ms : List Message) → Sent b (message_of value (purse_at b p).details) ms → Table (with_messages (with_purse b p (payer_after b p)) ms)
  keep_pay p g w ms x =
      let q : Purse = purse_at b p in
      let D : Details = (purse_at b p).details in
      let c : Bench = with_purse b p (payer_after b p) in
      let tc : Table c = put-paid p g w in
      let busy : (q.status ≡ 0 → ⊥) = λ (z : q.status ≡ 0). omega (arith, g.status) in
      let role : OwnPayer (called p) q = payer_role (called p) q (t.well p g.here) busy (λ (z : q.status ≡ 2). omega (arith, g.status)) in
      let k : MessageOk b (message_of request D) = t.message (message_of request D) g.stands in
      let j : (purse_at b D.payer.0).next.0 ≡ q.next.0 = ap (λ (n : ℕ). (purse_at b n).next.0) role.name in
      sent c (message_of value D) ms refl tc x
      (message_later (grown_put b p (payer_after b p) g.here (omega arith))
      (answer_ok value (omega arith) (omega arith) k (role.low, omega (arith, role.high))))
      (none _ (λ (l : 1 ≤ count_m (message_of value D) b.messages). never (is_at 1 q D) (at_own q 1 g.status) (rw role.name at ((t.clear (message_of value D) l).epr (omega arith)))))
      (record { epr = λ (y : 2 ≤ 2). rw (role.name, here_after p (payer_after b p) g.here); epv = λ (y : 2 ≡ 3). absurd (omega arith) })

  keep_get : (p : ℕ) → Taking b p value → Good p (payee_after b p) → (ms : List Message) → Sent b (message_of acknowledge (purse_at b p).details) ms → Table (with_messages (with_purse b p (payee_after b p)) ms)
  keep_get p g w ms x =
      let q : Purse = purse_at b p in
      let D : Details = (purse_at b p).details in
      let c : Bench = with_purse b p (payee_after b p) in
      let tc : Table c = put-idle p (q.balance.0 + D.amount.0) g.here w in
      let role : OwnPayee (called p) q = payee_role (called p) q (t.well p g.here) g.status in
      let k : MessageOk b (message_of value D) = t.message (message_of value D) g.stands in
      sent c (message_of acknowledge D) ms refl tc x
      (message_later (grown_put b p (payee_after b p) g.here (omega arith))
      (answer_ok acknowledge (omega arith) (omega arith) k (⊎_elim (λ (y : 2 ≡ 1). absurd (omega arith)) (λ y. y) k.payer)))
      (none _ (λ (l : 1 ≤ count_m (message_of acknowledge D) b.messages). never (is_at 2 q D) (at_own q 2 g.status) (rw role.name at ((t.clear (message_of acknowledge D) l).epv refl))))
      (record { epr = λ (y : 2 ≤ 3). (tc.clear (message_of value D) g.stands).epr (omega arith); epv = λ (y : 3 ≡ 3). rw (role.name, here_after p (payee_after b p) g.here) })

  keep_collect : (p : ℕ) → p < length b.purses → 0 < (purse_at b p).logged → Good p (taken (purse_at b p)) → length b.archive < 256 → Table (with_archive (with_purse b p (taken (purse_at b p))) (b.archive ++ (record { by = called p; details = get_or (purse_at b p).log 0 zero_details } ∷ [])))
  keep_collect p hp l w room =
      let q : Purse = purse_at b p in
      let D : Details = get_or (purse_at b p).log 0 zero_details in
      let c : Bench = with_purse b p (taken q) in
      let one : bit (same_details D D) ≡ 1 = rw (details_same D) in
      let u : count_d D (kept q) ≡ bit (same_details D D) + count_d D (kept (taken q)) = kept-taken (called p) q (t.well p hp) l D in
      let z : count_d D (running q) + (count_d D (kept (taken q)) + count_d D (archived_by p b.archive)) ≡ 0 = omega (arith, t.once p hp D) in
      put_entry c p D (put-taken p hp l w)
      (entry_grown (grown_put b p (taken q) hp (omega arith))
      (record { table = t.names p hp D (omega arith); entry = kept_entry (called p) q (t.well p hp) D (omega arith) }))
      (rw (here_after p (taken q) hp) z)
      room

  pub table_moves : Moves b (λ (c : Bench) (x : Effect). Table c)
  table_moves =
      record {
        stays = t;
        from = put_from;
        to = keep_to;
        pay = keep_pay;
        get = keep_get;
        settle = λ p g w. put-idle p (purse_at b p).balance.0 g.here w;
        quit = λ p hp l w. put-idle p (purse_at b p).balance.0 hp w;
        stop = put-stopped;
        drop = λ i l. lose_message b i t l;
        collect = keep_collect;
        issue = put_new;
        load = λ p a hp z w. put-raised p a hp w;
      }

-- every step of a well-formed bench gives a well-formed bench
pub keep-step : (b : Bench) (l : List ℕ) → table_ok b ≡ true → table_ok (step b l).bench ≡ true
keep-step b l w =
    table_is (step b l).bench
    (step_moves b (is_table b w) (λ (c : Bench) (x : Effect). Table c) (table_moves b (is_table b w)) w l)

pub keep_run : (b : Bench) (ls : List (List ℕ)) → table_ok b ≡ true → table_ok (run b ls) ≡ true
keep_run b [] w = w
keep_run b (l ∷ ls) w = keep_run (step b l).bench ls (keep-step b l w)
