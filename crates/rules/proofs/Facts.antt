-- The table's rules as facts: a record for each rule, from the test and back. Membership and "twice" are counts.
-- Assumes nothing.
use Prim.Native.Nat.{ℕ, ◌+◌, ◌≤◌, ◌<◌}
use mathlib.Core.Path.{◌≡◌, refl, sym}
use mathlib.Core.Bool.{Bool, true, false, ◌&&◌, ◌||◌, not}
use mathlib.Core.Logic.{◌⊎◌, inl, inr, ⊎_elim}
use mathlib.Core.List.{List, [], ◌∷◌, ◌++◌}
use lib.ListN.{length}
use lib.Dec.{ltb, leb, eqb}
use native.Mathlib.Omega.{arith}
use borrow.Author.Tests.{leb-true, ltb-true, eqb-true, eq-eqb, le-leb, lt-ltb, not-true}
use Rattle.purse.specs.declared.Name.{Name}
use Rattle.purse.specs.declared.Details.{Details}
use Rattle.purse.specs.declared.Message.{Message}
use Rattle.purse.specs.Lists.{every, all, distinct}
use Rattle.purse.specs.Details.{same_details, named, entry_ok, same_message}
use Rattle.purse.specs.Purse.{well_formed}
use Rattle.purse.proofs.Bools.{and_l, and_r, either, and_i, or_inl, or_inr, not_i, which}
use Rattle.purse.proofs.Lists.{every_at, every-all}
use Rattle.purse.proofs.Payments.{Same, is_same, same_is}
use Rattle.purse.proofs.Count.{bit, times, times_append, is_distinct, distinct_is, is_all, all_is}
use Rattle.desk.specs.declared.Entry.{Entry}
use Rattle.desk.specs.Desk.{same_entry}
use Rattle.rules.specs.Bench.{Bench, called, purse_at, running, kept, archived_by, logged_by, is_at}
use Rattle.rules.specs.Table.{counts_ok, in_table, used_by, purse_ok, message_ok, archive_ok, once_ok, clear_ok, table_ok}

-- same details are equal
pub details_equal : (a b : Details) → same_details a b ≡ true → a ≡ b
details_equal a b h =
    let s : Same a b = is_same a b h in
    λ i. record {
      payer = record { 0 = s.payer i };
      payerseq = record { 0 = s.payerseq i };
      payee = record { 0 = s.payee i };
      payeeseq = record { 0 = s.payeeseq i };
      amount = record { 0 = s.amount i };
    }

pub details_same : (a : Details) → same_details a a ≡ true
details_same a = same_is a a (record { payer = refl; payerseq = refl; payee = refl; payeeseq = refl; amount = refl })

pub message_equal : (m k : Message) → same_message m k ≡ true → m ≡ k
unfolding same_message
message_equal m k h =
    let e : m.kind ≡ k.kind = eqb-true _ _ (and_l (eqb m.kind k.kind) (same_details m.details k.details) h) in
    let d : m.details ≡ k.details = details_equal _ _ (and_r (eqb m.kind k.kind) (same_details m.details k.details) h) in
    λ i. record { kind = e i; details = d i }

pub message_same : (m : Message) → same_message m m ≡ true
unfolding same_message
message_same m = and_i (eq-eqb m.kind _ refl) (details_same m.details)

pub entry_equal : (e f : Entry) → same_entry e f ≡ true → e ≡ f
unfolding same_entry
entry_equal e f h =
    let n : e.by.0 ≡ f.by.0 = eqb-true _ _ (and_l (eqb e.by.0 f.by.0) (same_details e.details f.details) h) in
    let d : e.details ≡ f.details = details_equal _ _ (and_r (eqb e.by.0 f.by.0) (same_details e.details f.details) h) in
    λ i. record { by = record { 0 = n i }; details = d i }

pub entry_same : (e : Entry) → same_entry e e ≡ true
unfolding same_entry
entry_same e = and_i (eq-eqb e.by.0 _ refl) (details_same e.details)

-- how often details, or a message, stand in a list
abbrev pub count_d : Details → List Details → ℕ
count_d = times same_details

abbrev pub count_m : Message → List Message → ℕ
count_m = times same_message

pub record InTable (b : Bench) (d : Details) : Type 0 where
  pub payer : d.payer.0 < length b.purses
  pub payee : d.payee.0 < length b.purses

pub is_in : (b : Bench) (d : Details) → in_table b d ≡ true → InTable b d
unfolding in_table
is_in b d h =
    record {
      payer = ltb-true _ _ (and_l (ltb d.payer.0 (length b.purses)) (ltb d.payee.0 (length b.purses)) h);
      payee = ltb-true _ _ (and_r (ltb d.payer.0 (length b.purses)) (ltb d.payee.0 (length b.purses)) h);
    }

pub in_is : (b : Bench) (d : Details) → InTable b d → in_table b d ≡ true
unfolding in_table
in_is b d t = and_i (lt-ltb _ _ t.payer) (lt-ltb _ _ t.payee)

pub record MessageOk (b : Bench) (m : Message) : Type 0 where
  pub low : 1 ≤ m.kind
  pub high : m.kind ≤ 3
  pub name : named m.details ≡ true
  pub table : InTable b m.details
  pub payee_low : 1 ≤ m.details.payeeseq.0
  pub payee_high : m.details.payeeseq.0 < (purse_at b m.details.payee.0).next.0
  pub payer : (m.kind ≡ 1) ⊎ ((1 ≤ m.details.payerseq.0) × (m.details.payerseq.0 < (purse_at b m.details.payer.0).next.0))

is_used_by : (b : Bench) (n : Name) (s : ℕ) → used_by b n s ≡ true → (1 ≤ s) × (s < (purse_at b n.0).next.0)
is_used_by b n s h = (
  leb-true _ _ (and_l (leb 1 s) (ltb s (purse_at b n.0).next.0) h),
  ltb-true _ _ (and_r (leb 1 s) (ltb s (purse_at b n.0).next.0) h),
)

pub is_message : (b : Bench) (m : Message) → message_ok b m ≡ true → MessageOk b m
unfolding message_ok
is_message b m h =
    let k1 : Bool = leb 1 m.kind in
    let k3 : Bool = leb m.kind 3 in
    let nm : Bool = named m.details in
    let it : Bool = in_table b m.details in
    let pe : Bool = used_by b m.details.payee m.details.payeeseq.0 in
    let pr : Bool = eqb m.kind 1 || used_by b m.details.payer m.details.payerseq.0 in
    let h5 : (k1 && k3 && nm && it && pe) ≡ true = and_l (k1 && k3 && nm && it && pe) pr h in
    let h4 : (k1 && k3 && nm && it) ≡ true = and_l (k1 && k3 && nm && it) pe h5 in
    let h3 : (k1 && k3 && nm) ≡ true = and_l (k1 && k3 && nm) it h4 in
    let h2 : (k1 && k3) ≡ true = and_l (k1 && k3) nm h3 in
    let u : (1 ≤ m.details.payeeseq.0) × (m.details.payeeseq.0 < (purse_at b m.details.payee.0).next.0) =
    is_used_by b m.details.payee m.details.payeeseq.0 (and_r (k1 && k3 && nm && it) pe h5)
    in
    record {
      low = leb-true _ _ (and_l k1 k3 h2);
      high = leb-true _ _ (and_r k1 k3 h2);
      name = and_r (k1 && k3) nm h3;
      table = is_in b m.details (and_r (k1 && k3 && nm) it h4);
      payee_low = u.0;
      payee_high = u.1;
      payer =
          ⊎_elim (λ (e : eqb m.kind 1 ≡ true). inl (eqb-true _ _ e))
          (λ (e : used_by b m.details.payer m.details.payerseq.0 ≡ true). inr (is_used_by b m.details.payer m.details.payerseq.0 e))
          (either (eqb m.kind 1) (used_by b m.details.payer m.details.payerseq.0) (and_r (k1 && k3 && nm && it && pe) pr h));
    }

pub message_is : (b : Bench) (m : Message) → MessageOk b m → message_ok b m ≡ true
unfolding message_ok
message_is b m k =
    and_i
    (and_i (and_i (and_i (and_i (le-leb _ _ k.low) (le-leb _ _ k.high)) k.name) (in_is b m.details k.table))
    (and_i (le-leb _ _ k.payee_low) (lt-ltb _ _ k.payee_high)))
    (⊎_elim
    (λ (e : m.kind ≡ 1). or_inl (eqb m.kind 1) (used_by b m.details.payer m.details.payerseq.0) (eq-eqb _ _ e))
    (λ (e : (1 ≤ m.details.payerseq.0) × (m.details.payerseq.0 < (purse_at b m.details.payer.0).next.0)).
    or_inr (eqb m.kind 1) (used_by b m.details.payer m.details.payerseq.0) (and_i (le-leb _ _ e.0) (lt-ltb _ _ e.1)))
    k.payer)

pub record ClearOk (b : Bench) (m : Message) : Type 0 where
  pub epr : 2 ≤ m.kind → is_at 1 (purse_at b m.details.payer.0) m.details ≡ false
  pub epv : m.kind ≡ 3 → is_at 2 (purse_at b m.details.payee.0) m.details ≡ false

nand : (a b : Bool) → (not (a && b)) ≡ true → a ≡ true → b ≡ false
nand true b h e = not-true b h
nand false b h e = cc

nand_i : (a b : Bool) → (a ≡ true → b ≡ false) → (not (a && b)) ≡ true
nand_i true b h = not_i b (h refl)
nand_i false b h = refl

pub is_clear : (b : Bench) (m : Message) → clear_ok b m ≡ true → ClearOk b m
unfolding clear_ok
is_clear b m h =
    let x : Bool = not (leb 2 m.kind && is_at 1 (purse_at b m.details.payer.0) m.details) in
    let y : Bool = not (eqb m.kind 3 && is_at 2 (purse_at b m.details.payee.0) m.details) in
    record {
      epr = λ k. nand (leb 2 m.kind) (is_at 1 (purse_at b m.details.payer.0) m.details) (and_l x y h) (le-leb _ _ k);
      epv = λ k. nand (eqb m.kind 3) (is_at 2 (purse_at b m.details.payee.0) m.details) (and_r x y h) (eq-eqb _ _ k);
    }

pub clear_is : (b : Bench) (m : Message) → ClearOk b m → clear_ok b m ≡ true
unfolding clear_ok
clear_is b m c =
    and_i
    (nand_i (leb 2 m.kind) (is_at 1 (purse_at b m.details.payer.0) m.details) (λ e. c.epr (leb-true _ _ e)))
    (nand_i (eqb m.kind 3) (is_at 2 (purse_at b m.details.payee.0) m.details) (λ e. c.epv (eqb-true _ _ e)))

-- an archive entry's rule, by the purse that logged it
pub record EntryOk (b : Bench) (n : ℕ) (d : Details) : Type 0 where
  pub table : InTable b d
  pub entry : entry_ok (called n) (purse_at b n).next d ≡ true

pub is_archive : (b : Bench) (es : List Entry) → all (archive_ok b) es ≡ true → (n : ℕ) (d : Details) → 1 ≤ count_d d (archived_by n es) → EntryOk b n d
unfolding archive_ok
is_archive b [] h n d t = absurd (omega arith)
is_archive b (e ∷ es) h n d t =
    ⊎_elim
    (λ (a : eqb e.by.0 n ≡ true).
    let t' : 1 ≤ bit (same_details d e.details) + count_d d (archived_by n es) = rw a at t in
    ⊎_elim
    (λ (s : same_details d e.details ≡ true).
    let k : e.details ≡ d = sym (details_equal d e.details s) in
    let j : e.by.0 ≡ n = eqb-true _ _ a in
    let g : (in_table b e.details && entry_ok (called e.by.0) (purse_at b e.by.0).next e.details) ≡ true = and_l (archive_ok b e) (all (archive_ok b) es) h in
    let g' : (in_table b d && entry_ok (called n) (purse_at b n).next d) ≡ true = rw (k, j) at g in
    record {
      table = is_in b d (and_l (in_table b d) (entry_ok (called n) (purse_at b n).next d) g');
      entry = and_r (in_table b d) (entry_ok (called n) (purse_at b n).next d) g';
    })
    (λ (s : same_details d e.details ≡ false).
    let z : bit (same_details d e.details) ≡ 0 = rw s in
    is_archive b es (and_r (archive_ok b e) (all (archive_ok b) es) h) n d (omega arith))
    (which (same_details d e.details)))
    (λ (a : eqb e.by.0 n ≡ false). is_archive b es (and_r (archive_ok b e) (all (archive_ok b) es) h) n d (rw a at t))
    (which (eqb e.by.0 n))

pub archive_is : (b : Bench) (es : List Entry) → ((n : ℕ) (d : Details) → 1 ≤ count_d d (archived_by n es) → EntryOk b n d) → all (archive_ok b) es ≡ true
unfolding archive_ok
archive_is b [] h = refl
archive_is b (e ∷ es) h =
    let own : eqb e.by.0 e.by.0 ≡ true = eq-eqb e.by.0 _ refl in
    let g : EntryOk b e.by.0 e.details =
    h e.by.0 e.details (rw own (rw (details_same e.details) (omega arith)))
    in
    and_i (and_i (in_is b e.details g.table) g.entry)
    (archive_is b es (λ (n : ℕ) (d : Details) (t : 1 ≤ count_d d (archived_by n es)).
    h n d
    (⊎_elim (λ (a : eqb e.by.0 n ≡ true). rw a (omega arith)) (λ (a : eqb e.by.0 n ≡ false). rw a t) (which (eqb e.by.0 n)))))

-- the rules of the lists, one by one
pub record Lists (b : Bench) : Type 0 where
  pub counts : counts_ok b ≡ true
  pub purse : (p : ℕ) → p < length b.purses → purse_ok b p ≡ true
  pub messages : all (message_ok b) b.messages ≡ true
  pub entries : all (archive_ok b) b.archive ≡ true
  pub once : (p : ℕ) → p < length b.purses → once_ok b p ≡ true
  pub apart : distinct same_message b.messages ≡ true
  pub clear : all (clear_ok b) b.messages ≡ true

pub is_lists : (b : Bench) → table_ok b ≡ true → Lists b
unfolding table_ok
is_lists b h =
    let n : ℕ = length b.purses in
    let c : Bool = counts_ok b in
    let p : Bool = every n (purse_ok b) in
    let m : Bool = all (message_ok b) b.messages in
    let e : Bool = all (archive_ok b) b.archive in
    let o : Bool = every n (once_ok b) in
    let d : Bool = distinct same_message b.messages in
    let h6 : (c && p && m && e && o && d) ≡ true = and_l (c && p && m && e && o && d) (all (clear_ok b) b.messages) h in
    let h5 : (c && p && m && e && o) ≡ true = and_l (c && p && m && e && o) d h6 in
    let h4 : (c && p && m && e) ≡ true = and_l (c && p && m && e) o h5 in
    let h3 : (c && p && m) ≡ true = and_l (c && p && m) e h4 in
    record {
      counts = and_l c p (and_l (c && p) m h3);
      purse = λ i g. every_at (purse_ok b) n i (and_r c p (and_l (c && p) m h3)) g;
      messages = and_r (c && p) m h3;
      entries = and_r (c && p && m) e h4;
      once = λ i g. every_at (once_ok b) n i (and_r (c && p && m && e) o h5) g;
      apart = and_r (c && p && m && e && o) d h6;
      clear = and_r (c && p && m && e && o && d) (all (clear_ok b) b.messages) h;
    }

pub lists_is : (b : Bench) → Lists b → table_ok b ≡ true
unfolding table_ok
lists_is b l =
    and_i
    (and_i
    (and_i
    (and_i
    (and_i (and_i l.counts (every-all (purse_ok b) (length b.purses) l.purse)) l.messages)
    l.entries)
    (every-all (once_ok b) (length b.purses) l.once))
    l.apart)
    l.clear

-- the whole table
pub record Table (b : Bench) : Type 0 where
  pub some : 1 ≤ length b.purses
  pub few : length b.purses ≤ 32
  pub few_messages : length b.messages ≤ 256
  pub few_entries : length b.archive ≤ 256
  pub well : (p : ℕ) → p < length b.purses → well_formed (called p) (purse_at b p) ≡ true
  pub names : (p : ℕ) → p < length b.purses → (d : Details) → 1 ≤ count_d d (running (purse_at b p)) + count_d d (kept (purse_at b p)) → InTable b d
  pub message : (m : Message) → 1 ≤ count_m m b.messages → MessageOk b m
  pub entry : (n : ℕ) (d : Details) → 1 ≤ count_d d (archived_by n b.archive) → EntryOk b n d
  pub once : (p : ℕ) → p < length b.purses → (d : Details) → count_d d (running (purse_at b p)) + (count_d d (kept (purse_at b p)) + count_d d (archived_by p b.archive)) ≤ 1
  pub alone : (m : Message) → count_m m b.messages ≤ 1
  pub clear : (m : Message) → 1 ≤ count_m m b.messages → ClearOk b m

pub is_table : (b : Bench) → table_ok b ≡ true → Table b
unfolding counts_ok purse_ok once_ok
is_table b h =
    let r : Lists b = is_lists b h in
    let n : ℕ = length b.purses in
    let c1 : Bool = leb 1 n in
    let c2 : Bool = leb n 32 in
    let c3 : Bool = leb (length b.messages) 256 in
    let c4 : Bool = leb (length b.archive) 256 in
    let g3 : (c1 && c2 && c3) ≡ true = and_l (c1 && c2 && c3) c4 r.counts in
    let g2 : (c1 && c2) ≡ true = and_l (c1 && c2) c3 g3 in
    record {
      some = leb-true _ _ (and_l c1 c2 g2);
      few = leb-true _ _ (and_r c1 c2 g2);
      few_messages = leb-true _ _ (and_r (c1 && c2) c3 g3);
      few_entries = leb-true _ _ (and_r (c1 && c2 && c3) c4 r.counts);
      well = λ p l. and_l (well_formed (called p) (purse_at b p)) (all (in_table b) (running (purse_at b p) ++ kept (purse_at b p))) (r.purse p l);
      names =
          λ p l d t.
          is_in b d
          (is_all same_details details_equal details_same (in_table b) (running (purse_at b p) ++ kept (purse_at b p))
          (and_r (well_formed (called p) (purse_at b p)) (all (in_table b) (running (purse_at b p) ++ kept (purse_at b p))) (r.purse p l))
          d (rw (times_append same_details d (running (purse_at b p)) (kept (purse_at b p))) t));
      message = λ m t. is_message b m (is_all same_message message_equal message_same (message_ok b) b.messages r.messages m t);
      entry = is_archive b b.archive r.entries;
      once =
          λ p l d.
          rw (times_append same_details d (running (purse_at b p)) (logged_by b p), times_append same_details d (kept (purse_at b p)) (archived_by p b.archive)) at
          (is_distinct same_details details_equal details_same (running (purse_at b p) ++ logged_by b p) (r.once p l) d);
      alone = is_distinct same_message message_equal message_same b.messages r.apart;
      clear = λ m t. is_clear b m (is_all same_message message_equal message_same (clear_ok b) b.messages r.clear m t);
    }

pub table_is : (b : Bench) → Table b → table_ok b ≡ true
unfolding counts_ok purse_ok once_ok
table_is b t =
    lists_is b (record {
      counts = and_i (and_i (and_i (le-leb _ _ t.some) (le-leb _ _ t.few)) (le-leb _ _ t.few_messages)) (le-leb _ _ t.few_entries);
      purse =
          λ p l.
          and_i (t.well p l)
          (all_is same_details details_equal details_same (in_table b) (running (purse_at b p) ++ kept (purse_at b p)) (λ (d : Details) (c : 1 ≤ count_d d (running (purse_at b p) ++ kept (purse_at b p))).
          in_is b d (t.names p l d (rw (times_append same_details d (running (purse_at b p)) (kept (purse_at b p))) at c))));
      messages = all_is same_message message_equal message_same (message_ok b) b.messages (λ m c. message_is b m (t.message m c));
      entries = archive_is b b.archive t.entry;
      once =
          λ p l.
          distinct_is same_details details_equal details_same (running (purse_at b p) ++ logged_by b p) (λ (d : Details).
          rw (times_append same_details d (running (purse_at b p)) (logged_by b p), times_append same_details d (kept (purse_at b p)) (archived_by p b.archive)) (t.once p l d));
      apart = distinct_is same_message message_equal message_same b.messages t.alone;
      clear = all_is same_message message_equal message_same (clear_ok b) b.messages (λ m c. clear_is b m (t.clear m c));
    })
