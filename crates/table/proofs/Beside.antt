-- One message, one archive entry: the rules over the whole bench are what each asks alone and beside the records that it names. A message
-- speaks of its payee and its payer only, an entry of the purse that logged it.
-- Assumes nothing.
use Prim.Native.Nat.{ℕ, ◌<◌}
use mathlib.Core.Path.{◌≡◌, sym, ◌∙◌}
use mathlib.Core.Bool.{Bool, true, ◌&&◌, ◌||◌, not}
use mathlib.Core.Logic.{⊎_elim}
use lib.ListN.{length}
use lib.Dec.{ltb, leb, eqb}
use borrow.Author.Tests.{ltb-true}
use Rattle.purse.specs.declared.Details.{Details}
use Rattle.purse.specs.declared.Message.{Message}
use Rattle.purse.specs.declared.Purse.{Purse}
use Rattle.purse.specs.Details.{named, as_payer, as_payee, entry_ok}
use Rattle.purse.proofs.Bools.{and_l, and_r, and_i}
use Rattle.purse.proofs.Payments.{entry_role, as_payer_lem, as_payee_lem}
use Rattle.desk.specs.declared.Entry.{Entry}
use Rattle.rules.specs.Bench.{Bench, purse_at, is_at}
use Rattle.rules.specs.Table.{in_table, used_by, message_ok, archive_ok, clear_ok}
use Rattle.table_records.specs.Records.{within, message_alone, entry_alone, payee_ok, payer_ok, message_beside, holds, entry_beside}

module _ (b : Bench) (n : ℕ) (many : length b.purses ≡ n) where
  pub within_table : (d : Details) → within n d ≡ in_table b d
  unfolding within in_table
  within_table d = rw many

  -- a message at its payee and its payer
  module _ (m : Message) where
    abbrev pub payee : ℕ
    payee = m.details.payee.0

    abbrev pub payer : ℕ
    payer = m.details.payer.0

    pub message_alone_lem : message_ok b m ≡ true → message_alone n m ≡ true
    unfolding message_ok message_alone
    message_alone_lem h =
        rw (within_table m.details)
        (and_l _ (used_by b m.details.payee m.details.payeeseq.0)
        (and_l _ (eqb m.kind 1 || used_by b m.details.payer m.details.payerseq.0) h))

    at_payee : message_ok b m ≡ true → clear_ok b m ≡ true → payee_ok (purse_at b payee) m ≡ true
    unfolding message_ok clear_ok payee_ok
    at_payee h c =
        and_i
        (and_r (leb 1 m.kind && leb m.kind 3 && named m.details && in_table b m.details) (used_by b m.details.payee m.details.payeeseq.0)
        (and_l _ (eqb m.kind 1 || used_by b m.details.payer m.details.payerseq.0) h))
        (and_r (not (leb 2 m.kind && is_at 1 (purse_at b m.details.payer.0) m.details)) _ c)

    at_payer : message_ok b m ≡ true → clear_ok b m ≡ true → payer_ok (purse_at b payer) m ≡ true
    unfolding message_ok clear_ok payer_ok
    at_payer h c =
        and_i
        (and_r
        (leb 1 m.kind && leb m.kind 3 && named m.details && in_table b m.details && used_by b m.details.payee m.details.payeeseq.0)
        (eqb m.kind 1 || used_by b m.details.payer m.details.payerseq.0)
        h)
        (and_l _ (not (eqb m.kind 3 && is_at 2 (purse_at b m.details.payee.0) m.details)) c)

    pub message_beside_lem : message_ok b m ≡ true → clear_ok b m ≡ true → message_beside n (purse_at b payee) (purse_at b payer) m ≡ true
    unfolding message_beside
    message_beside_lem h c = and_i (and_i (message_alone_lem h) (at_payee h c)) (at_payer h c)

    joined : message_alone n m ≡ true → payee_ok (purse_at b payee) m ≡ true → payer_ok (purse_at b payer) m ≡ true → (message_ok b m ≡ true) × (clear_ok b m ≡ true)
    unfolding message_ok clear_ok payee_ok payer_ok message_alone
    joined h s t =
        let u : Bool = used_by b m.details.payee m.details.payeeseq.0 in
        let v : Bool = eqb m.kind 1 || used_by b m.details.payer m.details.payerseq.0 in (
          and_i (and_i (rw (within_table m.details) at h) (and_l u _ s)) (and_l v _ t),
          and_i (and_r v _ t) (and_r u _ s),
        )

    -- both names are places of the table
    pub inside : message_alone n m ≡ true → (payee < n) × (payer < n)
    unfolding message_alone within
    inside h =
        let w : (ltb m.details.payer.0 n && ltb m.details.payee.0 n) ≡ true =
        and_r (leb 1 m.kind && leb m.kind 3 && named m.details) _ h in (
          ltb-true _ _ (and_r (ltb m.details.payer.0 n) (ltb m.details.payee.0 n) w),
          ltb-true _ _ (and_l (ltb m.details.payer.0 n) (ltb m.details.payee.0 n) w),
        )

    pub message_whole : message_beside n (purse_at b payee) (purse_at b payer) m ≡ true → (message_ok b m ≡ true) × (clear_ok b m ≡ true)
    unfolding message_beside
    message_whole h =
        let u : (message_alone n m && payee_ok (purse_at b payee) m) ≡ true =
        and_l (message_alone n m && payee_ok (purse_at b payee) m) (payer_ok (purse_at b payer) m) h in
        joined
        (and_l (message_alone n m) (payee_ok (purse_at b payee) m) u)
        (and_r (message_alone n m) (payee_ok (purse_at b payee) m) u)
        (and_r (message_alone n m && payee_ok (purse_at b payee) m) (payer_ok (purse_at b payer) m) h)

  -- an entry at the purse that logged it
  module _ (e : Entry) where
    by_inside : in_table b e.details ≡ true → entry_ok e.by (purse_at b e.by.0).next e.details ≡ true → ltb e.by.0 n ≡ true
    unfolding in_table
    by_inside t h =
        let p : (m : ℕ) → ltb m (length b.purses) ≡ true → m ≡ e.by.0 → ltb e.by.0 n ≡ true =
        λ (m : ℕ) (l : ltb m (length b.purses) ≡ true) (k : m ≡ e.by.0). rw (many, k) at l in
        ⊎_elim
        (λ (a : as_payer e.by (purse_at b e.by.0).next e.details ≡ true).
        p e.details.payer.0 (and_l _ (ltb e.details.payee.0 (length b.purses)) t) (as_payer_lem _ _ _ a).0)
        (λ (a : as_payee e.by (purse_at b e.by.0).next e.details ≡ true).
        p e.details.payee.0 (and_r (ltb e.details.payer.0 (length b.purses)) _ t) (as_payee_lem _ _ _ a).0)
        (entry_role e.by (purse_at b e.by.0).next e.details h)

    pub entry_alone_lem : archive_ok b e ≡ true → entry_alone n e ≡ true
    unfolding archive_ok entry_alone
    entry_alone_lem h =
        let t : in_table b e.details ≡ true = and_l (in_table b e.details) (entry_ok e.by (purse_at b e.by.0).next e.details) h in
        and_i (by_inside t (and_r (in_table b e.details) (entry_ok e.by (purse_at b e.by.0).next e.details) h)) (within_table e.details ∙ t)

    abbrev by : Purse
    by = purse_at b e.by.0

    pub entry_beside_lem : archive_ok b e ≡ true → not (holds by e.details) ≡ true → entry_beside n by e ≡ true
    unfolding archive_ok entry_beside
    entry_beside_lem h o =
        and_i (and_i (entry_alone_lem h) (and_r (in_table b e.details) (entry_ok e.by by.next e.details) h)) o

    entry_parts : entry_beside n by e ≡ true → (entry_alone n e && entry_ok e.by by.next e.details) ≡ true
    unfolding entry_beside
    entry_parts h = and_l (entry_alone n e && entry_ok e.by by.next e.details) (not (holds by e.details)) h

    pub entry_whole : entry_beside n by e ≡ true → archive_ok b e ≡ true
    unfolding archive_ok entry_alone
    entry_whole h =
        let u : (ltb e.by.0 n && within n e.details) ≡ true = and_l (entry_alone n e) (entry_ok e.by by.next e.details) (entry_parts h) in
        and_i (sym (within_table e.details) ∙ and_r (ltb e.by.0 n) (within n e.details) u)
        (and_r (entry_alone n e) (entry_ok e.by by.next e.details) (entry_parts h))

    pub entry_once : entry_beside n by e ≡ true → not (holds by e.details) ≡ true
    unfolding entry_beside
    entry_once h = and_r (entry_alone n e && entry_ok e.by by.next e.details) (not (holds by e.details)) h

    pub entry_parts_alone : entry_beside n by e ≡ true → entry_alone n e ≡ true
    entry_parts_alone h = and_l (entry_alone n e) (entry_ok e.by by.next e.details) (entry_parts h)
