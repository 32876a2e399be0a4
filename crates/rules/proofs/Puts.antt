-- What keeps the table's rules: one purse replaced, a message or an entry put at the end, a message taken out.
-- Assumes nothing.
use Prim.Native.Nat.{ℕ, suc, ◌+◌, ◌≤◌, ◌<◌}
use mathlib.Core.Path.{◌≡◌, ◌∙◌, sym, ap, subst₂}
use mathlib.Core.Bool.{true, false, cond}
use mathlib.Core.Logic.{inl, inr, ⊎_elim}
use mathlib.Core.List.{List, [], ◌∷◌, ◌++◌}
use lib.ListN.{length, get_or, take, drop, set, length-set, length-append, length-take, length-drop}
use lib.Seq.{get_or-set_same, get_or-set_other}
use lib.Dec.{eqb}
use native.Mathlib.Omega.{arith}
use borrow.Author.Tests.{eqb-true, eqb-false}
use Rattle.purse.specs.declared.Details.{Details}
use Rattle.purse.specs.declared.Message.{Message}
use Rattle.purse.specs.declared.Purse.{Purse}
use Rattle.purse.specs.Details.{zero_message, same_details, same_message}
use Rattle.purse.specs.Purse.{well_formed, zero_purse}
use Rattle.purse.specs.Lists.{without}
use Rattle.purse.proofs.Bools.{which}
use Rattle.purse.proofs.Lists.{read_end, read_before}
use Rattle.purse.proofs.Payments.{entry_later}
use Rattle.purse.proofs.Count.{bit, bit_le, times_append, times_split}
use Rattle.desk.specs.declared.Entry.{Entry}
use Rattle.rules.specs.Bench.{Bench, called, purse_at, running, kept, archived_by, is_at}
use Rattle.rules.specs.Steps.{with_purse, with_messages, with_archive}
use Rattle.rules.proofs.Facts.{details_equal, message_equal, count_d, count_m, InTable, MessageOk, ClearOk, EntryOk, Table}

-- the purses ps are those of b but for place p, an old one or the next free one, where q stands
pub record Replaced (b : Bench) (p : ℕ) (q : Purse) (ps : List Purse) : Type 0 where
  pub here : get_or ps p zero_purse ≡ q
  pub other : (k : ℕ) → (k ≡ p → ⊥) → get_or ps k zero_purse ≡ purse_at b k
  pub more : length b.purses ≤ length ps
  pub only : (k : ℕ) → k < length ps → (k ≡ p → ⊥) → k < length b.purses

pub put_replaced : (b : Bench) (p : ℕ) (q : Purse) → p < length b.purses → Replaced b p q (set b.purses p q)
put_replaced b p q here =
    let long : length (set b.purses p q) ≡ length b.purses = length-set b.purses p q in
    record {
      here = get_or-set_same b.purses p q zero_purse here;
      other = λ k e. get_or-set_other b.purses p k q zero_purse e;
      more = omega arith;
      only = λ k l e. omega arith;
    }

pub new_replaced : (b : Bench) (q : Purse) → Replaced b (length b.purses) q (b.purses ++ (q ∷ []))
new_replaced b q =
    let long : length (b.purses ++ (q ∷ [])) ≡ length b.purses + 1 = length-append b.purses (q ∷ []) in
    record {
      here = read_end b.purses q zero_purse;
      other = λ k e. read_before b.purses q zero_purse k e;
      more = omega arith;
      only = λ k l e. omega arith;
    }

abbrev pub with_purses : Bench → List Purse → Bench
with_purses b ps = record { purses = ps; messages = b.messages; archive = b.archive }

-- a purse of the table after one was replaced: what relates old and new there, and each other to itself, relates all
pub replace_cases : (b : Bench) (p : ℕ) (q : Purse) (ps : List Purse) → Replaced b p q ps → (k : ℕ) (T : Purse → Purse → Type 0) → (k ≡ p → T (purse_at b p) q) → ((k ≡ p → ⊥) → (r : Purse) → T r r) → T (purse_at b k) (get_or ps k zero_purse)
replace_cases b p q ps c k T f g =
    ⊎_elim
    (λ (a : eqb k p ≡ true).
    let e : k ≡ p = eqb-true k p a in
    subst₂ T (ap (purse_at b) (sym e)) (sym (ap (λ (n : ℕ). get_or ps n zero_purse) e ∙ c.here)) (f e))
    (λ (a : eqb k p ≡ false).
    let e : (k ≡ p → ⊥) = eqb-false k p a in
    rw (c.other k e) (g e (purse_at b k)))
    (which (eqb k p))

pub put_cases : (b : Bench) (p : ℕ) (q : Purse) → p < length b.purses → (k : ℕ) (T : Purse → Purse → Type 0) → (k ≡ p → T (purse_at b p) q) → ((k ≡ p → ⊥) → (r : Purse) → T r r) → T (purse_at b k) (purse_at (with_purse b p q) k)
put_cases b p q here k T f g = replace_cases b p q (set b.purses p q) (put_replaced b p q here) k T f g

-- the table has the same purses or more, and no number falls back
pub record Grown (b c : Bench) : Type 0 where
  pub more : length b.purses ≤ length c.purses
  pub next : (k : ℕ) → (purse_at b k).next.0 ≤ (purse_at c k).next.0

pub in_later : {b c : Bench} {d : Details} → Grown b c → InTable b d → InTable c d
in_later g t = record { payer = omega (arith, g.more, t.payer); payee = omega (arith, g.more, t.payee) }

pub message_later : {b c : Bench} {m : Message} → Grown b c → MessageOk b m → MessageOk c m
message_later {b} {c} {m} g k =
    record {
      low = k.low;
      high = k.high;
      name = k.name;
      table = in_later g k.table;
      payee_low = k.payee_low;
      payee_high = omega (arith, g.next m.details.payee.0, k.payee_high);
      payer =
          ⊎_elim (λ (e : m.kind ≡ 1). inl e)
          (λ (e : (1 ≤ m.details.payerseq.0) × (m.details.payerseq.0 < (purse_at b m.details.payer.0).next.0)).
          inr (e.0, omega (arith, g.next m.details.payer.0, e.1)))
          k.payer;
    }

pub entry_grown : {b c : Bench} {n : ℕ} {d : Details} → Grown b c → EntryOk b n d → EntryOk c n d
entry_grown {b} {c} {n} {d} g k =
    record {
      table = in_later g k.table;
      entry = entry_later (called n) (purse_at b n).next (purse_at c n).next d (g.next n) k.entry;
    }

-- purse p replaced by q
pub record PutOk (b : Bench) (p : ℕ) (q : Purse) : Type 0 where
  pub well : well_formed (called p) q ≡ true
  pub later : (purse_at b p).next.0 ≤ q.next.0
  pub names : (d : Details) → 1 ≤ count_d d (running q) + count_d d (kept q) → InTable b d
  pub once : (d : Details) → count_d d (running q) + (count_d d (kept q) + count_d d (archived_by p b.archive)) ≤ 1
  pub epr : (m : Message) → 1 ≤ count_m m b.messages → m.details.payer.0 ≡ p → 2 ≤ m.kind → is_at 1 q m.details ≡ false
  pub epv : (m : Message) → 1 ≤ count_m m b.messages → m.details.payee.0 ≡ p → m.kind ≡ 3 → is_at 2 q m.details ≡ false

pub grown_list : (b : Bench) (p : ℕ) (q : Purse) (ps : List Purse) → Replaced b p q ps → (purse_at b p).next.0 ≤ q.next.0 → Grown b (with_purses b ps)
grown_list b p q ps r later =
    record {
      more = r.more;
      next = λ (k : ℕ). replace_cases b p q ps r k (λ (o n : Purse). o.next.0 ≤ n.next.0) (λ e. later) (λ e r. omega arith);
    }

pub grown_put : (b : Bench) (p : ℕ) (q : Purse) → p < length b.purses → (purse_at b p).next.0 ≤ q.next.0 → Grown b (with_purse b p q)
grown_put b p q here later = grown_list b p q (set b.purses p q) (put_replaced b p q here) later

pub put_list : (b : Bench) (p : ℕ) (q : Purse) (ps : List Purse) → Replaced b p q ps → length ps ≤ 32 → Table b → PutOk b p q → Table (with_purses b ps)
put_list b p q ps rp few t k =
    let c : Bench = with_purses b ps in
    let g : Grown b c = grown_list b p q ps rp k.later in
    record {
      some = omega (arith, t.some, rp.more);
      few = few;
      few_messages = t.few_messages;
      few_entries = t.few_entries;
      well =
          λ (i : ℕ) (l : i < length ps).
          replace_cases b p q ps rp i (λ (o n : Purse). ((i ≡ p → ⊥) → well_formed (called i) o ≡ true) → well_formed (called i) n ≡ true)
          (λ e w. rw e k.well) (λ e r w. w e) (λ e. t.well i (rp.only i l e));
      names =
          λ (i : ℕ) (l : i < length ps) (d : Details).
          replace_cases b p q ps rp i
          (λ (o n : Purse). ((i ≡ p → ⊥) → 1 ≤ count_d d (running o) + count_d d (kept o) → InTable c d) → 1 ≤ count_d d (running n) + count_d d (kept n) → InTable c d)
          (λ e w h. in_later g (k.names d h)) (λ e r w. w e)
          (λ e h. in_later g (t.names i (rp.only i l e) d h));
      message = λ m h. message_later g (t.message m h);
      entry = λ n d h. entry_grown g (t.entry n d h);
      once =
          λ (i : ℕ) (l : i < length ps) (d : Details).
          replace_cases b p q ps rp i
          (λ (o n : Purse). ((i ≡ p → ⊥) → count_d d (running o) + (count_d d (kept o) + count_d d (archived_by i b.archive)) ≤ 1) → count_d d (running n) + (count_d d (kept n) + count_d d (archived_by i b.archive)) ≤ 1)
          (λ e w. rw e (k.once d)) (λ e r w. w e)
          (λ e. t.once i (rp.only i l e) d);
      alone = t.alone;
      clear =
          λ (m : Message) (h : 1 ≤ count_m m b.messages).
          record {
            epr =
                λ (l : 2 ≤ m.kind).
                replace_cases b p q ps rp m.details.payer.0 (λ (o n : Purse). is_at 1 o m.details ≡ false → is_at 1 n m.details ≡ false)
                (λ e w. k.epr m h e l) (λ e r w. w) ((t.clear m h).epr l);
            epv =
                λ (l : m.kind ≡ 3).
                replace_cases b p q ps rp m.details.payee.0 (λ (o n : Purse). is_at 2 o m.details ≡ false → is_at 2 n m.details ≡ false)
                (λ e w. k.epv m h e l) (λ e r w. w) ((t.clear m h).epv l);
          };
    }

pub put-purse : (b : Bench) (p : ℕ) (q : Purse) → p < length b.purses → Table b → PutOk b p q → Table (with_purse b p q)
put-purse b p q here t k =
    put_list b p q (set b.purses p q) (put_replaced b p q here) (omega (arith, t.few, length-set b.purses p q)) t k

-- a message at the end
pub count_end : (m k : Message) (ms : List Message) → count_m k (ms ++ (m ∷ [])) ≡ count_m k ms + bit (same_message k m)
count_end m k ms = omega (arith, times_append same_message k ms (m ∷ []))

-- what stands after a message was put at the end stood before, or is that message
pub at_end : (m k : Message) (ms : List Message) (T : Message → Type 0) → 1 ≤ count_m k (ms ++ (m ∷ [])) → T m → (1 ≤ count_m k ms → T k) → T k
at_end m k ms T h f g =
    ⊎_elim
    (λ (e : same_message k m ≡ true). rw (message_equal k m e) f)
    (λ (e : same_message k m ≡ false). let z : bit (same_message k m) ≡ 0 = rw e in g (omega (arith, count_end m k ms)))
    (which (same_message k m))

abbrev still : (b : Bench) (ms : List Message) (es : List Entry) → Grown b (record { purses = b.purses; messages = ms; archive = es })
still b ms es = record { more = omega arith; next = λ (k : ℕ). omega arith }

abbrev clear_still : {b : Bench} {m : Message} (ms : List Message) (es : List Entry) → ClearOk b m → ClearOk (record { purses = b.purses; messages = ms; archive = es }) m
clear_still ms es c = record { epr = c.epr; epv = c.epv }

pub put_message : (b : Bench) (m : Message) → Table b → MessageOk b m → count_m m b.messages ≡ 0 → ClearOk b m → length b.messages < 256 → Table (with_messages b (b.messages ++ (m ∷ [])))
put_message b m t k z c l =
    let ms : List Message = b.messages ++ (m ∷ []) in
    let long : length ms ≡ length b.messages + 1 = length-append b.messages (m ∷ []) in
    let g : Grown b (with_messages b ms) = still b ms b.archive in
    record {
      some = t.some;
      few = t.few;
      few_messages = omega arith;
      few_entries = t.few_entries;
      well = t.well;
      names = λ p h d j. in_later g (t.names p h d j);
      message = λ x h. message_later g (at_end m x b.messages (MessageOk b) h k (t.message x));
      entry = λ n d h. entry_grown g (t.entry n d h);
      once = t.once;
      alone =
          λ (x : Message).
          ⊎_elim
          (λ (e : same_message x m ≡ true).
          let y : count_m x b.messages ≡ 0 = ap (λ (v : Message). count_m v b.messages) (message_equal x m e) ∙ z in
          omega (arith, count_end m x b.messages, bit_le (same_message x m)))
          (λ (e : same_message x m ≡ false).
          let y : bit (same_message x m) ≡ 0 = rw e in
          omega (arith, count_end m x b.messages, t.alone x))
          (which (same_message x m));
      clear = λ x h. clear_still ms b.archive (at_end m x b.messages (ClearOk b) h c (t.clear x));
    }

-- a message taken out
pub lose_message : (b : Bench) (i : ℕ) → Table b → i < length b.messages → Table (with_messages b (without i b.messages))
lose_message b i t l =
    let ms : List Message = without i b.messages in
    let fewer : (x : Message) → count_m x ms ≤ count_m x b.messages = λ (x : Message). omega (arith, times_split same_message x b.messages i zero_message l) in
    let long : length ms ≤ 256 =
    omega (arith, length-append (take i b.messages) (drop (suc i) b.messages), length-take i b.messages, length-drop (suc i) b.messages, t.few_messages)
    in
    let g : Grown b (with_messages b ms) = still b ms b.archive in
    record {
      some = t.some;
      few = t.few;
      few_messages = long;
      few_entries = t.few_entries;
      well = t.well;
      names = λ p h d j. in_later g (t.names p h d j);
      message = λ x h. message_later g (t.message x (omega (arith, fewer x)));
      entry = λ n d h. entry_grown g (t.entry n d h);
      once = t.once;
      alone = λ x. omega (arith, fewer x, t.alone x);
      clear = λ x h. clear_still ms b.archive (t.clear x (omega (arith, fewer x)));
    }

-- an archive entry at the end
pub archived_end : (e : Entry) (k : ℕ) (d : Details) (es : List Entry) → count_d d (archived_by k (es ++ (e ∷ []))) ≡ count_d d (archived_by k es) + cond (eqb e.by.0 k) (bit (same_details d e.details)) 0
archived_end e k d [] =
    ⊎_elim (λ (a : eqb e.by.0 k ≡ true). rw a (omega arith)) (λ (a : eqb e.by.0 k ≡ false). rw a) (which (eqb e.by.0 k))
archived_end e k d (f ∷ es) =
    ⊎_elim (λ (a : eqb f.by.0 k ≡ true). rw a (omega (arith, archived_end e k d es))) (λ (a : eqb f.by.0 k ≡ false). rw a (archived_end e k d es)) (which (eqb f.by.0 k))

pub put_entry : (b : Bench) (n : ℕ) (d : Details) → Table b → EntryOk b n d → count_d d (running (purse_at b n)) + (count_d d (kept (purse_at b n)) + count_d d (archived_by n b.archive)) ≡ 0 → length b.archive < 256 → Table (with_archive b (b.archive ++ (record { by = called n; details = d } ∷ [])))
put_entry b n d t k z l =
    let e : Entry = record { by = called n; details = d } in
    let es : List Entry = b.archive ++ (e ∷ []) in
    let long : length es ≡ length b.archive + 1 = length-append b.archive (e ∷ []) in
    let g : Grown b (with_archive b es) = still b b.messages es in
    record {
      some = t.some;
      few = t.few;
      few_messages = t.few_messages;
      few_entries = omega arith;
      well = t.well;
      names = λ p h d j. in_later g (t.names p h d j);
      message = λ x h. message_later g (t.message x h);
      entry =
          λ (i : ℕ) (x : Details) (h : 1 ≤ count_d x (archived_by i es)).
          entry_grown g
          (⊎_elim
          (λ (a : eqb n i ≡ true).
          let u : cond (eqb n i) (bit (same_details x d)) 0 ≡ bit (same_details x d) = rw a in
          ⊎_elim
          (λ (s : same_details x d ≡ true). rw (details_equal x d s, sym (eqb-true n i a)) k)
          (λ (s : same_details x d ≡ false). let y : bit (same_details x d) ≡ 0 = rw s in t.entry i x (omega (arith, archived_end e i x b.archive)))
          (which (same_details x d)))
          (λ (a : eqb n i ≡ false).
          let u : cond (eqb n i) (bit (same_details x d)) 0 ≡ 0 = rw a in
          t.entry i x (omega (arith, archived_end e i x b.archive)))
          (which (eqb n i)));
      once =
          λ (p : ℕ) (h : p < length b.purses) (x : Details).
          ⊎_elim
          (λ (a : eqb n p ≡ true).
          let u : cond (eqb n p) (bit (same_details x d)) 0 ≡ bit (same_details x d) = rw a in
          ⊎_elim
          (λ (s : same_details x d ≡ true).
          let y : count_d x (running (purse_at b p)) + (count_d x (kept (purse_at b p)) + count_d x (archived_by p b.archive)) ≡ 0 = rw (details_equal x d s, sym (eqb-true n p a)) z in
          omega (arith, archived_end e p x b.archive, bit_le (same_details x d)))
          (λ (s : same_details x d ≡ false).
          let y : bit (same_details x d) ≡ 0 = rw s in
          omega (arith, archived_end e p x b.archive, t.once p h x))
          (which (same_details x d)))
          (λ (a : eqb n p ≡ false).
          let u : cond (eqb n p) (bit (same_details x d)) 0 ≡ 0 = rw a in
          omega (arith, archived_end e p x b.archive, t.once p h x))
          (which (eqb n p));
      alone = t.alone;
      clear = λ x h. clear_still b.messages es (t.clear x h);
    }
