-- The history of a bench: what was paid and what arrived beside what the purses hold. Each move keeps these facts.
-- `s` is what was moved so far; every fact but the money is about how often details stand somewhere.
-- Assumes nothing.
use Prim.Native.Nat.{ℕ, ◌+◌, ◌≤◌, ◌<◌}
use mathlib.Core.Path.{◌≡◌, refl, ◌∙◌, sym, ap}
use mathlib.Core.Bool.{Bool, true, false, cond}
use mathlib.Core.Logic.{◌⊎◌, inl, inr, ⊎_elim}
use mathlib.Core.List.{List, [], ◌∷◌, ◌++◌, append-nil, append_assoc}
use lib.ListN.{length, get_or, set, length-append, length-set, get_or-eq_default}
use lib.Dec.{ltb, leb, eqb}
use native.Mathlib.Omega.{arith}
use borrow.Author.Tests.{leb-true, leb-false, ltb-true, lt-ltb, eq-eqb, ne_eqb}
use Rattle.purse.specs.declared.Name.{Name}
use Rattle.purse.specs.declared.Seq.{Seq}
use Rattle.purse.specs.declared.Amount.{Amount}
use Rattle.purse.specs.declared.Details.{Details}
use Rattle.purse.specs.declared.Message.{Message}
use Rattle.purse.specs.declared.Purse.{Purse}
use Rattle.purse.specs.Details.{request, value, acknowledge, zero_details, zero_message, same_details, same_message}
use Rattle.purse.specs.Purse.{ceiling, zero_purse}
use Rattle.purse.specs.Step.{stopped, taken, raised}
use Rattle.purse.specs.Lists.{all, keep, total, without}
use Rattle.purse.proofs.Rules.{can_pay}
use Rattle.purse.proofs.Bools.{and_i, which, refute}
use Rattle.purse.proofs.Lists.{all_append, all_each}
use Rattle.purse.proofs.Payments.{is_same}
use Rattle.purse.proofs.Count.{none, bit, bit_le, bit_yes, times_append, times_split, total-append, keep_append}
use Rattle.desk.specs.declared.Entry.{Entry}
use Rattle.rules.specs.Bench.{Bench, called, opened_at, purse_at, kept, archived_by, is_at, balance_at}
use Rattle.rules.specs.Table.{table_ok}
use Rattle.rules.specs.Steps.{with_purse, with_new, with_messages, with_archive, step}
use Rattle.rules.specs.Run.{run}
use Rattle.rules.specs.Paid.{Addition, Effect, nothing, adds, effect_by, amount_of, sum_of, paid, arrived, added, paid_out, taken_in, added_to}
use Rattle.rules.proofs.Facts.{details_equal, details_same, count_d, count_m, MessageOk, Table, is_table}
use Rattle.rules.proofs.Puts.{Replaced, put_replaced, new_replaced, with_purses, replace_cases, put_cases, Grown, grown_list, grown_put, at_end, archived_end}
use Rattle.rules.proofs.Purses.{OwnPayer, OwnPayee, payer_role, payee_role, busy_apart, status_high, kept-stopped, kept-taken}
use Rattle.rules.proofs.Moves.{from_of, to_of, message_of, begun_from, begun_to, payer_after, payee_after, idle_after, Started, Taking, Sent, Good, pays, gets, Moves, step_moves}
use Rattle.rules.proofs.Kept.{fresh_to, keep-step}

-- how often: the payer in epr, the payer in epa, the payee in epv with d; the payer, the payee has logged d
abbrev pub epr : Bench → Details → ℕ
epr b d = bit (is_at 1 (purse_at b d.payer.0) d)

abbrev pub epa : Bench → Details → ℕ
epa b d = bit (is_at 3 (purse_at b d.payer.0) d)

abbrev pub epv : Bench → Details → ℕ
epv b d = bit (is_at 2 (purse_at b d.payee.0) d)

abbrev pub payer_log : Bench → Details → ℕ
payer_log b d = count_d d (kept (purse_at b d.payer.0)) + count_d d (archived_by d.payer.0 b.archive)

abbrev pub payee_log : Bench → Details → ℕ
payee_log b d = count_d d (kept (purse_at b d.payee.0)) + count_d d (archived_by d.payee.0 b.archive)

-- both purses are in the table and have used their numbers
pub record Placed (b : Bench) (d : Details) : Type 0 where
  pub payer : d.payer.0 < length b.purses
  pub payee : d.payee.0 < length b.purses
  pub payerseq : d.payerseq.0 < (purse_at b d.payer.0).next.0
  pub payeeseq : d.payeeseq.0 < (purse_at b d.payee.0).next.0

-- what a message that stands is backed by
pub record Backed (b : Bench) (s : Effect) (m : Message) : Type 0 where
  pub request : m.kind ≡ 1 → 1 ≤ epv b m.details + payee_log b m.details + count_d m.details s.arrived
  pub value : m.kind ≡ 2 → 1 ≤ count_d m.details s.paid
  pub acknowledge : m.kind ≡ 3 → 1 ≤ count_d m.details s.arrived

-- what one payment's seven numbers satisfy: in epr, in epa, in epv, logged by the payer, logged by the payee, paid, arrived
pub record Counts (epr epa epv payer_log payee_log paid arrived : ℕ) : Type 0 where
  pub unpaid : epr + paid ≤ 1
  pub held : epa + payer_log ≤ paid
  pub owed : paid ≤ epa + payer_log + arrived
  pub due : epv + payee_log + arrived ≤ 1
  pub got : paid ≤ epv + payee_log + arrived
  pub within : arrived ≤ paid

-- those numbers at a bench, with so often paid and arrived
abbrev pub CountsAt : Bench → Details → ℕ → ℕ → Type 0
CountsAt b d n m = Counts (epr b d) (epa b d) (epv b d) (payer_log b d) (payee_log b d) n m

-- every amount that was added came into a purse of the table
abbrev reached : Bench → List Addition → Bool
reached b l = all (λ (x : Addition). ltb x.purse (length b.purses)) l

-- s is what was moved so far. `money` is of any name: past the table all its terms are 0
pub record History (opening : ℕ → ℕ) (b : Bench) (s : Effect) : Type 0 where
  pub money : (p : ℕ) → balance_at b p + paid_out p s.paid ≡ opening p + added_to p s.added + taken_in p s.arrived
  pub placed : (d : Details) → 1 ≤ count_d d s.paid → Placed b d
  pub reach : reached b s.added ≡ true
  pub counts : (d : Details) → CountsAt b d (count_d d s.paid) (count_d d s.arrived)
  pub backed : (m : Message) → 1 ≤ count_m m b.messages → Backed b s m

-- what was moved first and then
abbrev pub joined : Effect → Effect → Effect
joined s x = record { paid = s.paid ++ x.paid; arrived = s.arrived ++ x.arrived; added = s.added ++ x.added }

-- the same facts after a move that moved x
record Next (b : Bench) (s : Effect) (c : Bench) (x : Effect) : Type 0 where
  grown : Grown b c
  money : (p : ℕ) → balance_at c p + paid_out p x.paid ≡ balance_at b p + added_to p x.added + taken_in p x.arrived
  placed : (d : Details) → 1 ≤ count_d d x.paid → Placed c d
  reach : reached c x.added ≡ true
  counts : (d : Details) → CountsAt c d (count_d d s.paid + count_d d x.paid) (count_d d s.arrived + count_d d x.arrived)
  rises : (d : Details) → epv b d + payee_log b d + count_d d s.arrived ≤ epv c d + payee_log c d + (count_d d s.arrived + count_d d x.arrived)
  backed : (m : Message) → 1 ≤ count_m m c.messages → (1 ≤ count_m m b.messages) ⊎ Backed c (joined s x) m

-- the purses alone decide it
grown_with : {b c : Bench} (ms : List Message) (es : List Entry) → Grown b c → Grown b (record { purses = c.purses; messages = ms; archive = es })
grown_with ms es g = record { more = g.more; next = g.next }

placed_later : {b c : Bench} {d : Details} → Grown b c → Placed b d → Placed c d
placed_later {b} {c} {d} g k =
    record {
      payer = omega (arith, g.more, k.payer);
      payee = omega (arith, g.more, k.payee);
      payerseq = omega (arith, g.next d.payer.0, k.payerseq);
      payeeseq = omega (arith, g.next d.payee.0, k.payeeseq);
    }

-- a sum over what was moved first and then
sum_joined : {A : Type 0} (w : A → ℕ) (f : A → Bool) (l k : List A) → total w (keep f (l ++ k)) ≡ total w (keep f l) + total w (keep f k)
sum_joined w f l k = ap (total w) (keep_append f l k) ∙ total-append w (keep f l) (keep f k)

after : {opening : ℕ → ℕ} {b : Bench} {s : Effect} {c : Bench} {x : Effect} → History opening b s → Next b s c x → History opening c (joined s x)
after {opening} {b} {s} {c} {x} h n =
    let tp : (d : Details) → count_d d (s.paid ++ x.paid) ≡ count_d d s.paid + count_d d x.paid = λ (d : Details). times_append same_details d s.paid x.paid in
    let ta : (d : Details) → count_d d (s.arrived ++ x.arrived) ≡ count_d d s.arrived + count_d d x.arrived = λ (d : Details). times_append same_details d s.arrived x.arrived in
    record {
      money =
          λ (p : ℕ).
          omega (
            arith,
            h.money p,
            n.money p,
            sum_joined amount_of (λ (d : Details). eqb d.payer.0 p) s.paid x.paid,
            sum_joined amount_of (λ (d : Details). eqb d.payee.0 p) s.arrived x.arrived,
            sum_joined sum_of (λ (y : Addition). eqb y.purse p) s.added x.added,
          );
      placed =
          λ (d : Details) (l : 1 ≤ count_d d (s.paid ++ x.paid)).
          ⊎_elim
          (λ (e : leb 1 (count_d d x.paid) ≡ true). n.placed d (leb-true _ _ e))
          (λ (e : leb 1 (count_d d x.paid) ≡ false). placed_later n.grown (h.placed d (omega (arith, tp d, leb-false 1 (count_d d x.paid) e))))
          (which (leb 1 (count_d d x.paid)));
      reach =
          all_append (λ (y : Addition). ltb y.purse (length c.purses)) s.added x.added
          ∙ and_i
          (all_each (λ (y : Addition). ltb y.purse (length b.purses)) (λ (y : Addition). ltb y.purse (length c.purses)) s.added
          (λ (y : Addition) (e : ltb y.purse (length b.purses) ≡ true). lt-ltb y.purse (length c.purses) (omega (arith, n.grown.more, ltb-true y.purse (length b.purses) e)))
          h.reach)
          n.reach;
      counts = λ (d : Details). omega (arith, tp d, ta d, n.counts d);
      backed =
          λ (m : Message) (l : 1 ≤ count_m m c.messages).
          ⊎_elim
          (λ (e : 1 ≤ count_m m b.messages).
          let k : Backed b s m = h.backed m e in
          record {
            request = λ j. omega (arith, k.request j, n.rises m.details, ta m.details);
            value = λ j. omega (arith, k.value j, tp m.details);
            acknowledge = λ j. omega (arith, k.acknowledge j, ta m.details);
          })
          (λ e. e)
          (n.backed m l);
    }

-- a purse's status
at_yes : (q : Purse) (k : ℕ) (d : Details) → q.status ≡ k → bit (is_at k q d) ≡ bit (same_details d q.details)
at_yes q k d s = rw (eq-eqb q.status k s)

at_no : (q : Purse) (k : ℕ) (d : Details) → (q.status ≡ k → ⊥) → bit (is_at k q d) ≡ 0
at_no q k d s = rw (ne_eqb q.status k s)

-- details of another payer, or payee, are others
other_payer : (p : ℕ) (d D : Details) → D.payer.0 ≡ p → (d.payer.0 ≡ p → ⊥) → bit (same_details d D) ≡ 0
other_payer p d D e n = rw (refute (same_details d D) (λ (x : same_details d D ≡ true). n ((is_same d D x).payer ∙ e)))

other_payee : (p : ℕ) (d D : Details) → D.payee.0 ≡ p → (d.payee.0 ≡ p → ⊥) → bit (same_details d D) ≡ 0
other_payee p d D e n = rw (refute (same_details d D) (λ (x : same_details d D ≡ true). n ((is_same d D x).payee ∙ e)))

-- one share in a sum
module _ {A : Type 0} (w f : A → ℕ) (p : ℕ) (D : A) where
  share : total w (keep (λ (d : A). eqb (f d) p) (D ∷ [])) ≡ cond (eqb (f D) p) (w D) 0
  share = ⊎_elim (λ (e : eqb (f D) p ≡ true). rw e (omega arith)) (λ (e : eqb (f D) p ≡ false). rw e) (which (eqb (f D) p))

  share_yes : f D ≡ p → total w (keep (λ (d : A). eqb (f d) p) (D ∷ [])) ≡ w D
  share_yes e = share ∙ rw (eq-eqb (f D) p e)

  share_no : (f D ≡ p → ⊥) → total w (keep (λ (d : A). eqb (f d) p) (D ∷ [])) ≡ 0
  share_no e = share ∙ rw (ne_eqb (f D) p e)

-- what a move of one purse does to the counts of d on the payer's side and on the payee's
record PayerSide (d : Details) (r r' a a' k : ℕ) (o n : Purse) : Type 0 where
  epr : bit (is_at 1 n d) + r ≤ bit (is_at 1 o d) + r'
  epa : bit (is_at 3 n d) + a ≡ bit (is_at 3 o d) + a'
  log : count_d d (kept n) ≡ count_d d (kept o) + k

record PayeeSide (d : Details) (v v' k : ℕ) (o n : Purse) : Type 0 where
  epv : bit (is_at 2 n d) + v ≡ bit (is_at 2 o d) + v'
  log : count_d d (kept n) ≡ count_d d (kept o) + k

-- same details, or none
by_same : (d D : Details) (T : Details → Type 0) → (bit (same_details d D) ≡ 1 → T D) → (bit (same_details d D) ≡ 0 → T d) → T d
by_same d D T f g =
    ⊎_elim
    (λ (e : same_details d D ≡ true). rw (details_equal d D e) (f (rw e)))
    (λ (e : same_details d D ≡ false). g (rw e))
    (which (same_details d D))

module _ (opening : ℕ → ℕ) (b : Bench) (t : Table b) (s : Effect) (h : History opening b s) where
  -- the details paid and arrived so far
  abbrev P : List Details
  P = s.paid

  abbrev A : List Details
  A = s.arrived

  -- a move of purse p that leaves its balance
  same_money : (p : ℕ) (q : Purse) → p < length b.purses → q.balance.0 ≡ (purse_at b p).balance.0 → (k : ℕ) → balance_at (with_purse b p q) k + 0 ≡ balance_at b k + 0 + 0
  same_money p q hp e k = put_cases b p q hp k (λ (o n : Purse). n.balance.0 + 0 ≡ o.balance.0 + 0 + 0) (λ z. omega arith) (λ z r. omega arith)

  -- a move of purse p alone that pays nothing and by which nothing arrives
  quiet : (p : ℕ) (q : Purse) → p < length b.purses → (purse_at b p).next.0 ≤ q.next.0 → q.balance.0 ≡ (purse_at b p).balance.0 → ((d : Details) → CountsAt (with_purse b p q) d (count_d d P + 0) (count_d d A + 0)) → ((d : Details) → epv b d + payee_log b d ≤ epv (with_purse b p q) d + payee_log (with_purse b p q) d) → History opening (with_purse b p q) (joined s nothing)
  quiet p q hp later balance cs up =
      after h
      (record {
        grown = grown_put b p q hp later;
        money = λ k. same_money p q hp balance k;
        placed = λ d l. absurd (omega arith);
        reach = refl;
        counts = cs;
        rises = λ (d : Details). omega (arith, up d);
        backed = λ m l. inl l;
      })

  -- purse p replaced, and the payer's side of no payment moves; likewise the payee's
  payer_still : (p : ℕ) (q : Purse) → p < length b.purses → (q.status ≡ 1 → ⊥) → (q.status ≡ 3 → ⊥) → ((purse_at b p).status ≡ 3 → ⊥) → ((d : Details) → d.payer.0 ≡ p → count_d d (kept q) ≡ count_d d (kept (purse_at b p))) → (d : Details) → PayerSide d 0 0 0 0 0 (purse_at b d.payer.0) (purse_at (with_purse b p q) d.payer.0)
  payer_still p q hp n1 n3 o3 log d =
      put_cases b p q hp d.payer.0 (PayerSide d 0 0 0 0 0)
      (λ e. record { epr = omega (arith, at_no q 1 d n1); epa = omega (arith, at_no q 3 d n3, at_no (purse_at b p) 3 d o3); log = omega (arith, log d e) })
      (λ e r. record { epr = omega arith; epa = refl; log = omega arith })

  payee_still : (p : ℕ) (q : Purse) → p < length b.purses → (q.status ≡ 2 → ⊥) → ((purse_at b p).status ≡ 2 → ⊥) → ((d : Details) → d.payee.0 ≡ p → count_d d (kept q) ≡ count_d d (kept (purse_at b p))) → (d : Details) → PayeeSide d 0 0 0 (purse_at b d.payee.0) (purse_at (with_purse b p q) d.payee.0)
  payee_still p q hp n2 o2 log d =
      put_cases b p q hp d.payee.0 (PayeeSide d 0 0 0)
      (λ e. record { epv = omega (arith, at_no q 2 d n2, at_no (purse_at b p) 2 d o2); log = omega (arith, log d e) })
      (λ e r. record { epv = refl; log = omega arith })

  hist_from : (p : ℕ) (o : Name) (u : Seq) (a : Amount) → Started b p o.0 → Good p (begun_from b p o u a) → History opening (with_purse b p (begun_from b p o u a)) (joined s nothing)
  hist_from p o u a st w =
      let q : Purse = purse_at b p in
      let q' : Purse = begun_from b p o u a in
      let D : Details = from_of b p o u a in
      let c : Bench = with_purse b p q' in
      let z : q.status ≡ 0 = st.idle in
      let no : (k : ℕ) → 1 ≤ k → (d : Details) → bit (is_at k q d) ≡ 0 = λ (k : ℕ) (l : 1 ≤ k) (d : Details). at_no q k d (λ (y : q.status ≡ k). omega arith) in
      let ps : (d : Details) → PayerSide d 0 (bit (same_details d D)) 0 0 0 (purse_at b d.payer.0) (purse_at c d.payer.0) =
      λ (d : Details).
      put_cases b p q' st.here d.payer.0 (PayerSide d 0 (bit (same_details d D)) 0 0 0)
      (λ e. record { epr = omega (arith, no 1 (omega arith) d); epa = omega (arith, no 3 (omega arith) d); log = omega arith })
      (λ e r. record { epr = omega arith; epa = refl; log = omega arith })
      in
      let es : (d : Details) → PayeeSide d 0 0 0 (purse_at b d.payee.0) (purse_at c d.payee.0) =
      payee_still p q' st.here (λ y. omega arith) (λ y. omega arith) (λ d e. refl)
      in
      let fresh : count_d D P ≡ 0 = none _ (λ (l : 1 ≤ count_d D P). omega (arith, (h.placed D l).payerseq)) in
      quiet p q' st.here (omega arith) refl
      (λ (d : Details).
      by_same d D (λ (d : Details). CountsAt c d (count_d d P + 0) (count_d d A + 0))
      (λ one. omega (arith, ps D, es D, h.counts D, bit_le (is_at 1 (purse_at c p) D)))
      (λ none. omega (arith, ps d, es d, h.counts d)))
      (λ (d : Details). omega (arith, es d))

  -- a message that was sent, and what backs it
  sent_backed : (c : Bench) (x : Effect) (m₀ : Message) (ms : List Message) → c.messages ≡ ms → Sent b m₀ ms → Backed c (joined s x) m₀ → (m : Message) → 1 ≤ count_m m c.messages → (1 ≤ count_m m b.messages) ⊎ Backed c (joined s x) m
  sent_backed c x m₀ ms e sn k m l =
      ⊎_elim
      (λ (f : ms ≡ b.messages). inl (rw (e ∙ f) at l))
      (λ (f : (ms ≡ b.messages ++ (m₀ ∷ [])) × (length b.messages < 256)).
      at_end m₀ m b.messages (λ (m : Message). (1 ≤ count_m m b.messages) ⊎ Backed c (joined s x) m) (rw (e ∙ f.0) at l) (inr k) (λ j. inl j))
      sn

  hist_to : (p : ℕ) (o : Name) (u : Seq) (a : Amount) → Started b p o.0 → Good p (begun_to b p o u a) → (ms : List Message) → Sent b (message_of request (to_of b p o u a)) ms → History opening (with_messages (with_purse b p (begun_to b p o u a)) ms) (joined s nothing)
  hist_to p o u a st w ms sn =
      let q : Purse = purse_at b p in
      let q' : Purse = begun_to b p o u a in
      let D : Details = to_of b p o u a in
      let c : Bench = with_messages (with_purse b p q') ms in
      let z : q.status ≡ 0 = st.idle in
      let no : (k : ℕ) → 1 ≤ k → (d : Details) → bit (is_at k q d) ≡ 0 = λ (k : ℕ) (l : 1 ≤ k) (d : Details). at_no q k d (λ (y : q.status ≡ k). omega arith) in
      let ps : (d : Details) → PayerSide d 0 0 0 0 0 (purse_at b d.payer.0) (purse_at c d.payer.0) =
      payer_still p q' st.here (λ y. omega arith) (λ y. omega arith) (λ y. omega arith) (λ d e. refl)
      in
      let es : (d : Details) → PayeeSide d 0 (bit (same_details d D)) 0 (purse_at b d.payee.0) (purse_at c d.payee.0) =
      λ (d : Details).
      put_cases b p q' st.here d.payee.0 (PayeeSide d 0 (bit (same_details d D)) 0)
      (λ e. record { epv = omega (arith, no 2 (omega arith) d); log = omega arith })
      (λ e r. record { epv = omega (arith, other_payee p d D refl e); log = omega arith })
      in
      let apart : (o.0 ≡ p → ⊥) = busy_apart (called p) q' w (λ (z : 2 ≡ 0). omega arith) in
      let unlogged : count_d D (kept q) + count_d D (archived_by p b.archive) ≡ 0 = fresh_to b t p o u a st.here apart in
      let fresh : count_d D P ≡ 0 = none _ (λ (l : 1 ≤ count_d D P). omega (arith, (h.placed D l).payeeseq)) in
      let here : bit (same_details D D) ≡ 1 = rw (details_same D) in
      let ta : count_d D (A ++ []) ≡ count_d D A + 0 = times_append same_details D A [] in
      after h
      (record {
        grown = grown_with ms b.archive (grown_put b p q' st.here (omega arith));
        money = λ k. same_money p q' st.here refl k;
        placed = λ d l. absurd (omega arith);
        reach = refl;
        counts =
            λ (d : Details).
            by_same d D (λ (d : Details). CountsAt c d (count_d d P + 0) (count_d d A + 0))
            (λ one. omega (arith, ps D, es D, h.counts D, bit_le (is_at 2 (purse_at c p) D)))
            (λ none. omega (arith, ps d, es d, h.counts d));
        rises = λ (d : Details). omega (arith, (es d).epv, (es d).log);
        backed =
            sent_backed c nothing (message_of request D) ms refl sn
            (record { request = λ j. omega (arith, (es D).epv); value = λ (j : 1 ≡ 2). absurd (omega arith); acknowledge = λ (j : 1 ≡ 3). absurd (omega arith) });
      })

  hist_pay : (p : ℕ) → Taking b p request → Good p (payer_after b p) → (ms : List Message) → Sent b (message_of value (purse_at b p).details) ms → History opening (with_messages (with_purse b p (payer_after b p)) ms) (joined s (pays (purse_at b p).details))
  hist_pay p g w ms sn =
      let q : Purse = purse_at b p in
      let q' : Purse = payer_after b p in
      let D : Details = (purse_at b p).details in
      let c : Bench = with_messages (with_purse b p q') ms in
      let z : q.status ≡ 1 = g.status in
      let role : OwnPayer (called p) q = payer_role (called p) q (t.well p g.here) (λ (y : q.status ≡ 0). omega arith) (λ (y : q.status ≡ 2). omega arith) in
      let mine : D.payer.0 ≡ p = role.name in
      let ps : (d : Details) → PayerSide d (bit (same_details d D)) 0 0 (bit (same_details d D)) 0 (purse_at b d.payer.0) (purse_at c d.payer.0) =
      λ (d : Details).
      put_cases b p q' g.here d.payer.0 (PayerSide d (bit (same_details d D)) 0 0 (bit (same_details d D)) 0)
      (λ e. record { epr = omega (arith, at_yes q 1 d z); epa = omega (arith, at_no q 3 d (λ (y : q.status ≡ 3). omega arith)); log = omega arith })
      (λ e r. record { epr = omega (arith, other_payer p d D mine e); epa = omega (arith, other_payer p d D mine e); log = omega arith })
      in
      let es : (d : Details) → PayeeSide d 0 0 0 (purse_at b d.payee.0) (purse_at c d.payee.0) =
      payee_still p q' g.here (λ y. omega arith) (λ y. omega arith) (λ d e. refl)
      in
      let k : MessageOk b (message_of request D) = t.message (message_of request D) g.stands in
      let gr : Grown b c = grown_with ms b.archive (grown_put b p q' g.here (omega arith)) in
      let own : (purse_at b D.payer.0).next.0 ≡ q.next.0 = ap (λ (n : ℕ). (purse_at b n).next.0) mine in
      let here : bit (same_details D D) ≡ 1 = rw (details_same D) in
      let asked : 1 ≤ epv b D + payee_log b D + count_d D A = (h.backed (message_of request D) g.stands).request refl in
      let enough : amount_of D ≤ q.balance.0 = can_pay (called p) q (t.well p g.here) z in
      after h
      (record {
        grown = gr;
        money =
            λ k.
            put_cases b p q' g.here k (λ (o n : Purse). n.balance.0 + paid_out k (D ∷ []) ≡ o.balance.0 + 0 + 0)
            (λ e. omega (arith, share_yes amount_of (λ (d : Details). d.payer.0) k D (mine ∙ sym e)))
            (λ e r. omega (arith, share_no amount_of (λ (d : Details). d.payer.0) k D (λ (y : D.payer.0 ≡ k). e (sym y ∙ mine))));
        placed =
            λ (d : Details) (l : 1 ≤ bit (same_details d D) + 0).
            rw (details_equal d D (bit_yes _ (omega arith)))
            (placed_later gr (record { payer = k.table.payer; payee = k.table.payee; payerseq = omega (arith, role.high); payeeseq = k.payee_high }));
        reach = refl;
        counts =
            λ (d : Details).
            by_same d D (λ (d : Details). CountsAt c d (count_d d P + (bit (same_details d D) + 0)) (count_d d A + 0))
            (λ one. omega (arith, ps D, es D, h.counts D))
            (λ none. omega (arith, ps d, es d, h.counts d));
        rises = λ (d : Details). omega (arith, (es d).epv, (es d).log);
        backed =
            sent_backed c (pays D) (message_of value D) ms refl sn
            (record {
              request = λ (j : 2 ≡ 1). absurd (omega arith);
              value = λ j. omega (arith, times_append same_details D P (D ∷ []));
              acknowledge = λ (j : 2 ≡ 3). absurd (omega arith);
            });
      })

  hist_get : (p : ℕ) → Taking b p value → Good p (payee_after b p) → (ms : List Message) → Sent b (message_of acknowledge (purse_at b p).details) ms → History opening (with_messages (with_purse b p (payee_after b p)) ms) (joined s (gets (purse_at b p).details))
  hist_get p g w ms sn =
      let q : Purse = purse_at b p in
      let q' : Purse = payee_after b p in
      let D : Details = (purse_at b p).details in
      let c : Bench = with_messages (with_purse b p q') ms in
      let z : q.status ≡ 2 = g.status in
      let role : OwnPayee (called p) q = payee_role (called p) q (t.well p g.here) z in
      let mine : D.payee.0 ≡ p = role.name in
      let ps : (d : Details) → PayerSide d 0 0 0 0 0 (purse_at b d.payer.0) (purse_at c d.payer.0) =
      payer_still p q' g.here (λ y. omega arith) (λ y. omega arith) (λ y. omega arith) (λ d e. refl)
      in
      let es : (d : Details) → PayeeSide d (bit (same_details d D)) 0 0 (purse_at b d.payee.0) (purse_at c d.payee.0) =
      λ (d : Details).
      put_cases b p q' g.here d.payee.0 (PayeeSide d (bit (same_details d D)) 0 0)
      (λ e. record { epv = omega (arith, at_yes q 2 d z); log = omega arith })
      (λ e r. record { epv = omega (arith, other_payee p d D mine e); log = omega arith })
      in
      let here : bit (same_details D D) ≡ 1 = rw (details_same D) in
      let was : 1 ≤ count_d D P = (h.backed (message_of value D) g.stands).value refl in
      after h
      (record {
        grown = grown_with ms b.archive (grown_put b p q' g.here (omega arith));
        money =
            λ k.
            put_cases b p q' g.here k (λ (o n : Purse). n.balance.0 + 0 ≡ o.balance.0 + 0 + taken_in k (D ∷ []))
            (λ e. omega (arith, share_yes amount_of (λ (d : Details). d.payee.0) k D (mine ∙ sym e)))
            (λ e r. omega (arith, share_no amount_of (λ (d : Details). d.payee.0) k D (λ (y : D.payee.0 ≡ k). e (sym y ∙ mine))));
        placed = λ d l. absurd (omega arith);
        reach = refl;
        counts =
            λ (d : Details).
            by_same d D (λ (d : Details). CountsAt c d (count_d d P + 0) (count_d d A + (bit (same_details d D) + 0)))
            (λ one. omega (arith, ps D, es D, h.counts D))
            (λ none. omega (arith, ps d, es d, h.counts d));
        rises = λ (d : Details). omega (arith, (es d).epv, (es d).log);
        backed =
            sent_backed c (gets D) (message_of acknowledge D) ms refl sn
            (record {
              request = λ (j : 3 ≡ 1). absurd (omega arith);
              value = λ (j : 3 ≡ 2). absurd (omega arith);
              acknowledge = λ j. omega (arith, times_append same_details D A (D ∷ []));
            });
      })

  hist_settle : (p : ℕ) → Taking b p acknowledge → Good p (idle_after b p) → History opening (with_purse b p (idle_after b p)) (joined s nothing)
  hist_settle p g w =
      let q : Purse = purse_at b p in
      let q' : Purse = idle_after b p in
      let D : Details = (purse_at b p).details in
      let c : Bench = with_purse b p q' in
      let z : q.status ≡ 3 = g.status in
      let role : OwnPayer (called p) q = payer_role (called p) q (t.well p g.here) (λ (y : q.status ≡ 0). omega arith) (λ (y : q.status ≡ 2). omega arith) in
      let mine : D.payer.0 ≡ p = role.name in
      let ps : (d : Details) → PayerSide d 0 0 (bit (same_details d D)) 0 0 (purse_at b d.payer.0) (purse_at c d.payer.0) =
      λ (d : Details).
      put_cases b p q' g.here d.payer.0 (PayerSide d 0 0 (bit (same_details d D)) 0 0)
      (λ e. record { epr = omega arith; epa = omega (arith, at_yes q 3 d z); log = omega arith })
      (λ e r. record { epr = omega arith; epa = omega (arith, other_payer p d D mine e); log = omega arith })
      in
      let es : (d : Details) → PayeeSide d 0 0 0 (purse_at b d.payee.0) (purse_at c d.payee.0) =
      payee_still p q' g.here (λ y. omega arith) (λ y. omega arith) (λ d e. refl)
      in
      let came : 1 ≤ count_d D A = (h.backed (message_of acknowledge D) g.stands).acknowledge refl in
      quiet p q' g.here (omega arith) refl
      (λ (d : Details).
      by_same d D (λ (d : Details). CountsAt c d (count_d d P + 0) (count_d d A + 0))
      (λ one. omega (arith, ps D, es D, h.counts D))
      (λ none. omega (arith, ps d, es d, h.counts d)))
      (λ (d : Details). omega (arith, es d))

  hist_quit : (p : ℕ) → p < length b.purses → (purse_at b p).status ≡ 1 → Good p (idle_after b p) → History opening (with_purse b p (idle_after b p)) (joined s nothing)
  hist_quit p hp z w =
      let q : Purse = purse_at b p in
      let q' : Purse = idle_after b p in
      let c : Bench = with_purse b p q' in
      let ps : (d : Details) → PayerSide d 0 0 0 0 0 (purse_at b d.payer.0) (purse_at c d.payer.0) =
      payer_still p q' hp (λ y. omega arith) (λ y. omega arith) (λ y. omega arith) (λ d e. refl)
      in
      let es : (d : Details) → PayeeSide d 0 0 0 (purse_at b d.payee.0) (purse_at c d.payee.0) =
      payee_still p q' hp (λ y. omega arith) (λ y. omega arith) (λ d e. refl)
      in
      quiet p q' hp (omega arith) refl
      (λ (d : Details). omega (arith, ps d, es d, h.counts d))
      (λ (d : Details). omega (arith, es d))

  -- details that two different purses share are not one purse's twice
  crossed : (p : ℕ) (d D : Details) → d.payer.0 ≡ p → D.payee.0 ≡ p → (D.payer.0 ≡ D.payee.0 → ⊥) → bit (same_details d D) ≡ 0
  crossed p d D e f n = rw (refute (same_details d D) (λ (x : same_details d D ≡ true). n (sym (is_same d D x).payer ∙ (e ∙ sym f))))

  crossed' : (p : ℕ) (d D : Details) → d.payee.0 ≡ p → D.payer.0 ≡ p → (D.payer.0 ≡ D.payee.0 → ⊥) → bit (same_details d D) ≡ 0
  crossed' p d D e f n = rw (refute (same_details d D) (λ (x : same_details d D ≡ true). n (f ∙ (sym e ∙ (is_same d D x).payee))))

  hist_stop : (p : ℕ) → p < length b.purses → 2 ≤ (purse_at b p).status → Good p (stopped (purse_at b p)) → History opening (with_purse b p (stopped (purse_at b p))) (joined s nothing)
  hist_stop p hp l w =
      let q : Purse = purse_at b p in
      let q' : Purse = stopped q in
      let D : Details = (purse_at b p).details in
      let c : Bench = with_purse b p q' in
      let busy : (q.status ≡ 0 → ⊥) = λ (y : q.status ≡ 0). omega arith in
      let apart : (D.payer.0 ≡ D.payee.0 → ⊥) = busy_apart (called p) q (t.well p hp) busy in
      let logs : (d : Details) → count_d d (kept q') ≡ count_d d (kept q) + bit (same_details d D) = kept-stopped (called p) q (t.well p hp) busy in
      ⊎_elim
      (λ (z : q.status ≡ 2).
      let mine : D.payee.0 ≡ p = (payee_role (called p) q (t.well p hp) z).name in
      let ps : (d : Details) → PayerSide d 0 0 0 0 0 (purse_at b d.payer.0) (purse_at c d.payer.0) =
      payer_still p q' hp (λ y. omega arith) (λ y. omega arith) (λ y. omega arith) (λ d e. omega (arith, logs d, crossed p d D e mine apart))
      in
      let es : (d : Details) → PayeeSide d (bit (same_details d D)) 0 (bit (same_details d D)) (purse_at b d.payee.0) (purse_at c d.payee.0) =
      λ (d : Details).
      put_cases b p q' hp d.payee.0 (PayeeSide d (bit (same_details d D)) 0 (bit (same_details d D)))
      (λ e. record { epv = omega (arith, at_yes q 2 d z); log = logs d })
      (λ e r. record { epv = omega (arith, other_payee p d D mine e); log = omega (arith, other_payee p d D mine e) })
      in
      quiet p q' hp (omega arith) refl
      (λ (d : Details). omega (arith, ps d, es d, h.counts d))
      (λ (d : Details). omega (arith, es d)))
      (λ (z : q.status ≡ 3).
      let mine : D.payer.0 ≡ p = (payer_role (called p) q (t.well p hp) busy (λ (y : q.status ≡ 2). omega arith)).name in
      let ps : (d : Details) → PayerSide d 0 0 (bit (same_details d D)) 0 (bit (same_details d D)) (purse_at b d.payer.0) (purse_at c d.payer.0) =
      λ (d : Details).
      put_cases b p q' hp d.payer.0 (PayerSide d 0 0 (bit (same_details d D)) 0 (bit (same_details d D)))
      (λ e. record { epr = omega arith; epa = omega (arith, at_yes q 3 d z); log = logs d })
      (λ e r. record { epr = omega arith; epa = omega (arith, other_payer p d D mine e); log = omega (arith, other_payer p d D mine e) })
      in
      let es : (d : Details) → PayeeSide d 0 0 0 (purse_at b d.payee.0) (purse_at c d.payee.0) =
      payee_still p q' hp (λ y. omega arith) (λ y. omega arith) (λ d e. omega (arith, logs d, crossed' p d D e mine apart))
      in
      quiet p q' hp (omega arith) refl
      (λ (d : Details). omega (arith, ps d, es d, h.counts d))
      (λ (d : Details). omega (arith, es d)))
      (status_high (called p) q (t.well p hp) l)

  hist_drop : (i : ℕ) → i < length b.messages → History opening (with_messages b (without i b.messages)) (joined s nothing)
  hist_drop i l =
      after h
      (record {
        grown = record { more = omega arith; next = λ (k : ℕ). omega arith };
        money = λ k. omega arith;
        placed = λ d l. absurd (omega arith);
        reach = refl;
        counts = λ (d : Details). omega (arith, h.counts d);
        rises = λ (d : Details). omega arith;
        backed = λ m j. inl (omega (arith, times_split same_message m b.messages i zero_message l));
      })

  hist_collect : (p : ℕ) → p < length b.purses → 0 < (purse_at b p).logged → Good p (taken (purse_at b p)) → length b.archive < 256 → History opening (with_archive (with_purse b p (taken (purse_at b p))) (b.archive ++ (record { by = called p; details = get_or (purse_at b p).log 0 zero_details } ∷ []))) (joined s nothing)
  hist_collect p hp l w room =
      let q : Purse = purse_at b p in
      let q' : Purse = taken q in
      let D : Details = get_or (purse_at b p).log 0 zero_details in
      let E : Entry = record { by = called p; details = D } in
      let c : Bench = with_archive (with_purse b p q') (b.archive ++ (E ∷ [])) in
      let same : (k i : ℕ) (d : Details) → bit (is_at i (purse_at c k) d) ≡ bit (is_at i (purse_at b k) d) =
      λ (k i : ℕ) (d : Details). put_cases b p q' hp k (λ (o n : Purse). bit (is_at i n d) ≡ bit (is_at i o d)) (λ e. refl) (λ e r. refl)
      in
      let logs : (k : ℕ) (d : Details) → count_d d (kept (purse_at c k)) + count_d d (archived_by k (b.archive ++ (E ∷ []))) ≡ count_d d (kept (purse_at b k)) + count_d d (archived_by k b.archive) =
      λ (k : ℕ) (d : Details).
      put_cases b p q' hp k (λ (o n : Purse). count_d d (kept n) + count_d d (archived_by k (b.archive ++ (E ∷ []))) ≡ count_d d (kept o) + count_d d (archived_by k b.archive))
      (λ (e : k ≡ p).
      let u : cond (eqb p k) (bit (same_details d D)) 0 ≡ bit (same_details d D) = rw (eq-eqb p k (sym e)) in
      omega (arith, kept-taken (called p) q (t.well p hp) l d, archived_end E k d b.archive))
      (λ (e : k ≡ p → ⊥) (r : Purse).
      let u : cond (eqb p k) (bit (same_details d D)) 0 ≡ 0 = rw (ne_eqb p k (λ (y : p ≡ k). e (sym y))) in
      omega (arith, archived_end E k d b.archive))
      in
      after h
      (record {
        grown = grown_with b.messages (b.archive ++ (E ∷ [])) (grown_put b p q' hp (omega arith));
        money = λ k. same_money p q' hp refl k;
        placed = λ d l. absurd (omega arith);
        reach = refl;
        counts = λ (d : Details). omega (arith, same d.payer.0 1 d, same d.payer.0 3 d, same d.payee.0 2 d, logs d.payer.0 d, logs d.payee.0 d, h.counts d);
        rises = λ (d : Details). omega (arith, same d.payee.0 2 d, logs d.payee.0 d);
        backed = λ m l. inl l;
      })

  -- an amount added to purse p, in the table or next to it, whose state and log stay as they were
  hist_added : (p v : ℕ) (q : Purse) (ps : List Purse) → Replaced b p q ps → p < length ps → ((k : ℕ) (d : Details) → bit (is_at k q d) ≡ bit (is_at k (purse_at b p) d)) → ((d : Details) → count_d d (kept q) ≡ count_d d (kept (purse_at b p))) → (purse_at b p).next.0 ≤ q.next.0 → q.balance.0 ≡ (purse_at b p).balance.0 + v → History opening (with_purses b ps) (joined s (adds p v))
  hist_added p v q ps rp hp state log later balance =
      let c : Bench = with_purses b ps in
      let D : Addition = record { purse = p; amount = v } in
      let same : (k i : ℕ) (d : Details) → bit (is_at i (purse_at c k) d) ≡ bit (is_at i (purse_at b k) d) =
      λ (k i : ℕ) (d : Details). replace_cases b p q ps rp k (λ (o n : Purse). bit (is_at i n d) ≡ bit (is_at i o d)) (λ e. state i d) (λ e r. refl)
      in
      let logs : (k : ℕ) (d : Details) → count_d d (kept (purse_at c k)) ≡ count_d d (kept (purse_at b k)) =
      λ (k : ℕ) (d : Details). replace_cases b p q ps rp k (λ (o n : Purse). count_d d (kept n) ≡ count_d d (kept o)) (λ e. log d) (λ e r. refl)
      in
      after h
      (record {
        grown = grown_list b p q ps rp later;
        money =
            λ k.
            replace_cases b p q ps rp k (λ (o n : Purse). n.balance.0 + 0 ≡ o.balance.0 + added_to k (D ∷ []) + 0)
            (λ e. omega (arith, balance, share_yes sum_of (λ (x : Addition). x.purse) k D (sym e)))
            (λ e r. omega (arith, share_no sum_of (λ (x : Addition). x.purse) k D (λ (y : p ≡ k). e (sym y))));
        placed = λ d l. absurd (omega arith);
        reach = and_i (lt-ltb _ _ hp) refl;
        counts = λ (d : Details). omega (arith, same d.payer.0 1 d, same d.payer.0 3 d, same d.payee.0 2 d, logs d.payer.0 d, logs d.payee.0 d, h.counts d);
        rises = λ (d : Details). omega (arith, same d.payee.0 2 d, logs d.payee.0 d);
        backed = λ m l. inl l;
      })

  hist_issue : (v : ℕ) → length b.purses < 32 → v ≤ ceiling (opened_at v) → History opening (with_new b v) (joined s (adds (length b.purses) v))
  hist_issue v few low =
      let end : length b.purses ≤ length b.purses = omega arith in
      let none : purse_at b (length b.purses) ≡ zero_purse = get_or-eq_default b.purses zero_purse end in
      hist_added (length b.purses) v (opened_at v) (b.purses ++ (opened_at v ∷ [])) (new_replaced b (opened_at v))
      (omega (arith, length-append b.purses (opened_at v ∷ [])))
      (λ k d. rw none) (λ d. rw none) (rw none (omega arith)) (rw none (omega arith))

  hist_load : (p : ℕ) (a : Amount) → p < length b.purses → (purse_at b p).status ≡ 0 → Good p (raised a (purse_at b p)) → History opening (with_purse b p (raised a (purse_at b p))) (joined s (adds p a.0))
  hist_load p a hp z w =
      hist_added p a.0 (raised a (purse_at b p)) (set b.purses p (raised a (purse_at b p))) (put_replaced b p (raised a (purse_at b p)) hp)
      (omega (arith, length-set b.purses p (raised a (purse_at b p))))
      (λ k d. refl) (λ d. refl) (omega arith) refl

  pub history_moves : Moves b (λ (c : Bench) (x : Effect). History opening c (joined s x))
  history_moves =
      record {
        stays = rw (append-nil s.paid, append-nil s.arrived, append-nil s.added) h;
        from = hist_from;
        to = hist_to;
        pay = hist_pay;
        get = hist_get;
        settle = hist_settle;
        quit = hist_quit;
        stop = hist_stop;
        drop = hist_drop;
        collect = hist_collect;
        issue = hist_issue;
        load = hist_load;
      }

-- each step keeps the history's facts
pub history_step : (opening : ℕ → ℕ) (b : Bench) (s : Effect) (l : List ℕ) → table_ok b ≡ true → History opening b s → History opening (step b l).bench (joined s (effect_by b l))
history_step opening b s l w h =
    step_moves b (is_table b w) (λ (c : Bench) (x : Effect). History opening c (joined s x)) (history_moves opening b (is_table b w) s h) w l

-- all that a run moved
abbrev pub moved_by : Bench → List (List ℕ) → Effect
moved_by b ls = record { paid = paid b ls; arrived = arrived b ls; added = added b ls }

pub history_run : (opening : ℕ → ℕ) (b : Bench) (s : Effect) (ls : List (List ℕ)) → table_ok b ≡ true → History opening b s → History opening (run b ls) (joined s (moved_by b ls))
history_run opening b s [] w h = rw (append-nil s.paid, append-nil s.arrived, append-nil s.added) h
history_run opening b s (l ∷ ls) w h =
    rw (
      ← append_assoc s.paid (effect_by b l).paid (paid (step b l).bench ls),
      ← append_assoc s.arrived (effect_by b l).arrived (arrived (step b l).bench ls),
      ← append_assoc s.added (effect_by b l).added (added (step b l).bench ls),
    )
    (history_run opening (step b l).bench (joined s (effect_by b l)) ls (keep-step b l w) (history_step opening b s l w h))
