-- A table and desk obey the rules just where each record does alone, and each message and each entry does beside the records that it names.
-- Both ways: the rules of the whole are taken apart, a name looks up the bench's purse (`at_name`), and the details that a purse has are
-- apart by its own record, by the archive alone, and by the archive beside the records (Once).
-- Assumes nothing.
use Prim.Native.Nat.{ℕ, ◌+◌, ◌-◌, ◌≤◌, ◌<◌, ◌%◌}
use mathlib.Core.Path.{◌≡◌, refl, sym, ◌∙◌, ap}
use mathlib.Core.Bool.{Bool, true, false, ◌&&◌, not}
use mathlib.Core.Logic.{⊎_elim}
use mathlib.Core.List.{List, ◌++◌}
use lib.ListN.{length, take, drop, get_or, length-drop}
use lib.Seq.{length-take-le, get_or-take, get_or-drop}
use lib.Dec.{ltb, leb, eqb}
use native.Mathlib.Omega.{arith}
use borrow.Author.Tests.{leb-true, le-leb, ltb-true, ltb-false, eqb-true, eq-eqb}
use Rattle.purse.specs.declared.Name.{Name}
use Rattle.purse.specs.declared.Details.{Details}
use Rattle.purse.specs.declared.Message.{Message}
use Rattle.purse.specs.declared.Purse.{Purse}
use Rattle.purse.specs.Lists.{every, all, distinct}
use Rattle.purse.specs.Details.{same_details, same_message}
use Rattle.purse.specs.Purse.{zero_purse, well_formed}
use Rattle.purse.proofs.Bools.{and_l, and_r, and_i, which, together}
use Rattle.purse.proofs.Lists.{every_at, every-all, all_at, all-places, all_each, all_both}
use Rattle.desk.specs.declared.Entry.{Entry}
use Rattle.desk.specs.declared.Held.{Held}
use Rattle.desk.specs.Desk.{zero_entry, same_entry}
use Rattle.rules.specs.Bench.{Bench, called, purse_at, running, kept, archived_by}
use Rattle.rules.specs.Table.{counts_ok, in_table, purse_ok, message_ok, archive_ok, once_ok, clear_ok}
use Rattle.rules.specs.Laid.{seen, is_zero_purse, is_zero_message, is_zero_entry, places_ok, held_ok}
use Rattle.rules.proofs.Facts.{Lists, is_lists, lists_is, is_table}
use Rattle.rules.proofs.Places.{places_long, places_fit, places_used, places_rest, Obeys, obeys, obeyed}
use Rattle.table_records.specs.Records.{standing, collected, when, within, message_alone, message_beside, message_in, entry_alone, entry_beside, entry_in, holds, names_ok, record_of, record_ok, records_ok, messages_ok, entries_ok, by_messages}
use Rattle.table_records.proofs.Same.{when_i, when_e}
use Rattle.table.proofs.Beside.{within_table, message_alone_lem, message_beside_lem, message_whole, inside, entry_alone_lem, entry_beside_lem, entry_whole, entry_once}
use Rattle.table_records.proofs.Record.{is_used, is_unused}
use Rattle.table.proofs.Once.{record_apart, archived_apart, apart_archived, once_parts}

-- an unused place is zero
places_zero : {A : Type 0} (f : A → Bool) (many n : ℕ) (l : List A) → places_ok f many n l ≡ true → (i : ℕ) (z : A) → n ≤ i → i < many → f (get_or l i z) ≡ true
places_zero f many n l h i z g k =
    let e : n + (i - n) ≡ i = omega arith in
    let s : f (get_or (drop n l) (i - n) z) ≡ true =
    all_at f (drop n l) z (i - n) (places_rest f many n l h) (rw (length-drop n l) (omega (arith, places_long f many n l h))) in
    rw (get_or-drop n l (i - n) z, e) at s

-- .. and back
zero_places : {A : Type 0} (f : A → Bool) (many n : ℕ) (l : List A) (z : A) → length l ≡ many → n ≤ many → ((i : ℕ) → n ≤ i → i < many → f (get_or l i z) ≡ true) → places_ok f many n l ≡ true
zero_places f many n l z e k h =
    and_i (and_i (eq-eqb _ _ e) (le-leb _ _ k))
    (all-places f (drop n l) z (λ (j : ℕ) (g : j < length (drop n l)).
    let m : j < length l - n = rw (length-drop n l) at g in
    rw (get_or-drop n l j z) (h (n + j) (omega arith) (omega arith))))

module _ (h : Held) where
  abbrev n : ℕ
  n = h.desk.purses

  abbrev l : List Purse
  l = h.table

  abbrev b : Bench
  b = seen h

  abbrev own : ℕ → Purse
  own i = purse_at b i

  -- a record of the table is the bench's purse, and so is the one that a name looks up
  at_place : (i : ℕ) → i < n → own i ≡ get_or l i zero_purse
  at_place i g = get_or-take n l i zero_purse g

  at_name : n ≤ 32 → (k : Name) → k.0 < n → record_of l k ≡ own k.0
  at_name fits k g =
      let e : k.0 % 32 ≡ k.0 = omega arith in
      ap (λ (i : ℕ). get_or l i zero_purse) e ∙ sym (at_place k.0 g)

  message_seen : n ≤ 32 → (m : Message) → m.details.payee.0 < n → m.details.payer.0 < n → message_in n l m ≡ message_beside n (own m.details.payee.0) (own m.details.payer.0) m
  message_seen fits m g k = rw (at_name fits m.details.payee g, at_name fits m.details.payer k)

  entry_seen : n ≤ 32 → (e : Entry) → e.by.0 < n → entry_in n l e ≡ entry_beside n (own e.by.0) e
  entry_seen fits e g = rw (at_name fits e.by g)

  message_in_lem : (m : Message) → message_in n l m ≡ true → message_alone n m ≡ true
  unfolding message_beside
  message_in_lem m k = and_l (message_alone n m) _ (and_l _ _ k)

  entry_in_lem : (e : Entry) → entry_in n l e ≡ true → entry_alone n e ≡ true
  unfolding entry_beside
  entry_in_lem e k = and_l (entry_alone n e) _ (and_l _ _ k)

  by_below : (e : Entry) → entry_alone n e ≡ true → e.by.0 < n
  unfolding entry_alone
  by_below e k = ltb-true _ _ (and_l (ltb e.by.0 n) _ k)

  counts_seen : h.desk.purses ≤ 32 → length h.table ≡ 32 → 1 ≤ h.desk.purses → places_ok is_zero_message 256 h.desk.ether.count h.desk.ether.places ≡ true → places_ok is_zero_entry 256 h.desk.archive.count h.desk.archive.places ≡ true → counts_ok (seen h) ≡ true
  unfolding counts_ok
  counts_seen a b c m e =
      let l : length (take h.desk.purses h.table) ≡ h.desk.purses = length-take-le h.desk.purses h.table (omega arith) in
      and_i
      (and_i
      (and_i (le-leb 1 (length (take h.desk.purses h.table)) (omega arith)) (le-leb (length (take h.desk.purses h.table)) 32 (omega arith)))
      (le-leb (length (standing h.desk.ether)) 256 (omega (arith, places_used is_zero_message 256 h.desk.ether.count h.desk.ether.places m, places_fit is_zero_message 256 h.desk.ether.count h.desk.ether.places m))))
      (le-leb (length (collected h.desk.archive)) 256 (omega (arith, places_used is_zero_entry 256 h.desk.archive.count h.desk.archive.places e, places_fit is_zero_entry 256 h.desk.archive.count h.desk.archive.places e)))

  module _ (fits : n ≤ 32) (many : length (take n l) ≡ n) where
    -- from the bench's rules
    module _ (r : Lists b) where
      record_to : (i : ℕ) → i < n → (well_formed (called i) (own i) && names_ok n (own i)) ≡ true
      unfolding names_ok purse_ok
      record_to i g =
          let k : (well_formed (called i) (own i) && all (in_table b) (running (own i) ++ kept (own i))) ≡ true = r.purse i (omega arith) in
          and_i
          (and_l (well_formed (called i) (own i)) _ k)
          (all_each (in_table b) (within n) (running (own i) ++ kept (own i)) (λ (x : Details) (e : in_table b x ≡ true). within_table b n many x ∙ e) (and_r (well_formed (called i) (own i)) _ k))

      messages_to : all (message_in n l) b.messages ≡ true
      messages_to =
          all_both (message_ok b) (clear_ok b) (message_in n l) b.messages (λ (m : Message) (s : message_ok b m ≡ true) (t : clear_ok b m ≡ true).
          let k = inside b n many m (message_alone_lem b n many m s) in
          message_seen fits m k.0 k.1 ∙ message_beside_lem b n many m s t) r.messages r.clear

      -- what an entry's purse holds besides
      entry_apart : (j : ℕ) → j < length b.archive → (get_or b.archive j zero_entry).by.0 < n → not (holds (own (get_or b.archive j zero_entry).by.0) (get_or b.archive j zero_entry).details) ≡ true
      entry_apart j g k =
          let e : Entry = get_or b.archive j zero_entry in
          let i : ℕ = e.by.0 in
          let f : Entry → Bool = λ (x : Entry). when (eqb x.by.0 i) (not (holds (own i) x.details)) in
          let o = rw (once_parts b i) at (r.once i (omega arith)) in
          let s : f e ≡ true = all_at f b.archive zero_entry j (and_r (distinct same_details (running (own i) ++ kept (own i)) && distinct same_details (archived_by i b.archive)) _ o) g in
          when_e (eqb i i) (not (holds (own i) e.details)) s (eq-eqb i i refl)

      entries_to : all (entry_in n l) b.archive ≡ true
      entries_to =
          all-places (entry_in n l) b.archive zero_entry (λ (j : ℕ) (g : j < length b.archive).
          let e : Entry = get_or b.archive j zero_entry in
          let a : archive_ok b e ≡ true = all_at (archive_ok b) b.archive zero_entry j r.entries g in
          let k : e.by.0 < n = by_below e (entry_alone_lem b n many e a) in
          entry_seen fits e k ∙ entry_beside_lem b n many e a (entry_apart j g k))

      apart_to : distinct same_entry b.archive ≡ true
      apart_to =
          apart_archived n b.archive
          (all_each (archive_ok b) (entry_alone n) b.archive (λ (x : Entry) (k : archive_ok b x ≡ true). entry_alone_lem b n many x k) r.entries)
          (λ (i : ℕ) (g : i < n).
          let o = rw (once_parts b i) at (r.once i (omega arith)) in
          and_r (distinct same_details (running (own i) ++ kept (own i))) (distinct same_details (archived_by i b.archive))
          (and_l _ (all (λ (x : Entry). when (eqb x.by.0 i) (not (holds (own i) x.details))) b.archive) o))

    -- .. and back
    module _ (s : (i : ℕ) → i < n → (well_formed (called i) (own i) && names_ok n (own i)) ≡ true) (ms : all (message_in n l) b.messages ≡ true) (es : all (entry_in n l) b.archive ≡ true) where
      purse_from : (i : ℕ) → i < n → purse_ok b i ≡ true
      unfolding purse_ok names_ok
      purse_from i g =
          and_i
          (and_l (well_formed (called i) (own i)) (names_ok n (own i)) (s i g))
          (all_each (within n) (in_table b) (running (own i) ++ kept (own i)) (λ (x : Details) (e : within n x ≡ true). sym (within_table b n many x) ∙ e) (and_r (well_formed (called i) (own i)) (names_ok n (own i)) (s i g)))

      message_from : (m : Message) → message_in n l m ≡ true → (message_ok b m ≡ true) × (clear_ok b m ≡ true)
      message_from m k =
          let w = inside b n many m (message_in_lem m k) in
          message_whole b n many m (sym (message_seen fits m w.0 w.1) ∙ k)

      entry_from : (e : Entry) → entry_in n l e ≡ true → entry_beside n (own e.by.0) e ≡ true
      entry_from e k = sym (entry_seen fits e (by_below e (entry_in_lem e k))) ∙ k

      -- an entry that purse i logged
      apart_from : (i : ℕ) (e : Entry) → entry_in n l e ≡ true → when (eqb e.by.0 i) (not (holds (own i) e.details)) ≡ true
      apart_from i e k =
          when_i (eqb e.by.0 i) (not (holds (own i) e.details)) (λ (w : eqb e.by.0 i ≡ true).
          rw (eqb-true e.by.0 i w) at (entry_once b n many e (entry_from e k)))

      once_from : distinct same_entry b.archive ≡ true → (i : ℕ) → i < n → once_ok b i ≡ true
      once_from a i g =
          once_parts b i
          ∙ and_i
          (and_i (record_apart (called i) (own i) (and_l (well_formed (called i) (own i)) (names_ok n (own i)) (s i g))) (archived_apart b.archive a i))
          (all_each (entry_in n l) (λ (e : Entry). when (eqb e.by.0 i) (not (holds (own i) e.details))) b.archive (apart_from i) es)

      lists_from : counts_ok b ≡ true → distinct same_message b.messages ≡ true → distinct same_entry b.archive ≡ true → Lists b
      lists_from c x y =
          record {
            counts = c;
            purse = λ (i : ℕ) (g : i < length b.purses). purse_from i (omega arith);
            messages = all_each (message_in n l) (message_ok b) b.messages (λ (m : Message) (k : message_in n l m ≡ true). (message_from m k).0) ms;
            entries = all_each (entry_in n l) (archive_ok b) b.archive (λ (e : Entry) (k : entry_in n l e ≡ true). entry_whole b n many e (entry_from e k)) es;
            once = λ (i : ℕ) (g : i < length b.purses). once_from y i (omega arith);
            apart = x;
            clear = all_each (message_in n l) (clear_ok b) b.messages (λ (m : Message) (k : message_in n l m ≡ true). (message_from m k).1) ms;
          }

  to : held_ok h ≡ true → by_messages h ≡ true
  unfolding by_messages records_ok messages_ok entries_ok
  to k =
      let o : Obeys h = obeys h k in
      let many : length (take n l) ≡ n = places_used is_zero_purse 32 n l o.purses in
      let fits : n ≤ 32 = places_fit is_zero_purse 32 n l o.purses in
      let r : Lists b = is_lists b o.lists in
      let one : 1 ≤ n = omega (arith, (is_table b o.lists).some) in
      let records : (i : ℕ) → i < 32 → record_ok n i (get_or l i zero_purse) ≡ true =
      λ (i : ℕ) (g : i < 32).
      ⊎_elim
      (λ (w : ltb i n ≡ true).
      is_used n i (get_or l i zero_purse) (ltb-true i n w) ∙ rw (at_place i (ltb-true i n w)) at (record_to fits many r i (ltb-true i n w)))
      (λ (w : ltb i n ≡ false).
      is_unused n i (get_or l i zero_purse) (ltb-false i n w) ∙ places_zero is_zero_purse 32 n l o.purses i zero_purse (ltb-false i n w) g)
      (which (ltb i n)) in
      and_i
      (and_i
      (and_i
      (and_i (and_i (eq-eqb _ _ (places_long is_zero_purse 32 n l o.purses)) (le-leb _ _ one)) (le-leb _ _ fits))
      (every-all (λ (i : ℕ). record_ok n i (get_or l i zero_purse)) 32 records))
      (and_i (and_i o.messages (messages_to fits many r)) r.apart))
      (and_i (and_i o.entries (entries_to fits many r)) (apart_to fits many r))

  from : by_messages h ≡ true → held_ok h ≡ true
  unfolding by_messages records_ok messages_ok entries_ok
  from k =
      let m : Bool = places_ok is_zero_message 256 h.desk.ether.count h.desk.ether.places in
      let am : Bool = all (message_in n l) (standing h.desk.ether) in
      let dm : Bool = distinct same_message (standing h.desk.ether) in
      let e : Bool = places_ok is_zero_entry 256 h.desk.archive.count h.desk.archive.places in
      let ae : Bool = all (entry_in n l) (collected h.desk.archive) in
      let de : Bool = distinct same_entry (collected h.desk.archive) in
      let f : ℕ → Bool = λ (i : ℕ). record_ok n i (get_or l i zero_purse) in
      let q : Bool = eqb (length l) 32 in
      let k4 : (q && leb 1 n && leb n 32 && every 32 f && (m && am && dm)) ≡ true =
      and_l (q && leb 1 n && leb n 32 && every 32 f && (m && am && dm)) (e && ae && de) k in
      let ke : (e && ae && de) ≡ true = and_r (q && leb 1 n && leb n 32 && every 32 f && (m && am && dm)) (e && ae && de) k in
      let km : (m && am && dm) ≡ true = and_r (q && leb 1 n && leb n 32 && every 32 f) (m && am && dm) k4 in
      let k3 : (q && leb 1 n && leb n 32 && every 32 f) ≡ true = and_l (q && leb 1 n && leb n 32 && every 32 f) (m && am && dm) k4 in
      let k2 : (q && leb 1 n && leb n 32) ≡ true = and_l (q && leb 1 n && leb n 32) (every 32 f) k3 in
      let long : length l ≡ 32 = eqb-true _ _ (and_l q (leb 1 n) (and_l (q && leb 1 n) (leb n 32) k2)) in
      let one : 1 ≤ n = leb-true 1 n (and_r q (leb 1 n) (and_l (q && leb 1 n) (leb n 32) k2)) in
      let fits : n ≤ 32 = leb-true n 32 (and_r (q && leb 1 n) (leb n 32) k2) in
      let pm : m ≡ true = and_l m am (and_l (m && am) dm km) in
      let pe : e ≡ true = and_l e ae (and_l (e && ae) de ke) in
      let kr : (i : ℕ) → i < 32 → f i ≡ true = λ (i : ℕ) (g : i < 32). every_at f 32 i (and_r (q && leb 1 n && leb n 32) (every 32 f) k3) g in
      let kp : places_ok is_zero_purse 32 n l ≡ true =
      zero_places is_zero_purse 32 n l zero_purse long fits (λ (i : ℕ) (g : n ≤ i) (w : i < 32).
      sym (is_unused n i (get_or l i zero_purse) g) ∙ kr i w) in
      let many : length (take n l) ≡ n = places_used is_zero_purse 32 n l kp in
      let s : (i : ℕ) → i < n → (well_formed (called i) (own i) && names_ok n (own i)) ≡ true =
      λ (i : ℕ) (g : i < n).
      rw (at_place i g) (sym (is_used n i (get_or l i zero_purse) g) ∙ kr i (omega arith)) in
      obeyed h (record {
        purses = kp;
        messages = pm;
        entries = pe;
        lists =
            lists_is b
            (lists_from fits many s
            (and_r m am (and_l (m && am) dm km))
            (and_r e ae (and_l (e && ae) de ke))
            (counts_seen fits long one pm pe)
            (and_r (m && am) dm km)
            (and_r (e && ae) de ke));
      })

  pub held_by_messages : held_ok h ≡ by_messages h
  held_by_messages = together (held_ok h) (by_messages h) to from

  -- the parts asked, of a table of 32 records
  pub held-asked : {r : Bool} → length l ≡ 32 → r ≡ (leb 1 n && leb n 32 && records_ok n l && messages_ok n l h.desk.ether && entries_ok n l h.desk.archive) → r ≡ held_ok h
  unfolding by_messages
  held-asked long k = k ∙ sym (held_by_messages ∙ rw (eq-eqb (length l) 32 long))
