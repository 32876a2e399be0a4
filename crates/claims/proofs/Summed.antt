-- The claims figure, one pass over the entries of all logs and one over the archive, is the sum over the purses of their matched pairs.
-- Why: an entry adds its amount for its payer alone, in a log for that log's purse and in the archive for the purse that logged it, each a
-- purse of the table; so each pair is counted once.
-- Assumes nothing.
use Prim.Native.Nat.{ℕ, ◌+◌, ◌%◌, ◌≤◌, ◌<◌}
use mathlib.Core.Path.{◌≡◌, refl, ◌∙◌, sym, ap}
use mathlib.Core.Bool.{Bool, true, false, ◌||◌, cond}
use mathlib.Core.Logic.{⊎_elim}
use mathlib.Core.List.{List, [], ◌∷◌, map}
use lib.ListN.{length, get_or}
use lib.Seq.{get_or-take}
use lib.Dec.{ltb, eqb}
use native.Mathlib.Omega.{arith}
use borrow.Author.Tests.{eqb-true, eq-eqb, lt-ltb, ltb-true, le-leb}
use Rattle.purse.specs.declared.Details.{Details}
use Rattle.purse.specs.declared.Purse.{Purse}
use Rattle.purse.specs.Lists.{every, all, among, keep, total, sum_to}
use Rattle.purse.specs.Details.{same_details}
use Rattle.purse.specs.Purse.{zero_purse}
use Rattle.purse.proofs.Bools.{and_l, and_i, which}
use Rattle.purse.proofs.Lists.{every-all, all_each, among-append}
use Rattle.purse.proofs.Rules.{wf_bounds, wf_log}
use Rattle.purse.proofs.Log.{log_long}
use Rattle.purse.proofs.Count.{all_is, total-keep, total_each, total-map, total-append, total_append_to, sum_same, sum_add, sum_shares}
use Rattle.desk.specs.declared.Entry.{Entry}
use Rattle.desk.specs.declared.Archive.{Archive}
use Rattle.desk.specs.declared.Held.{Held}
use Rattle.desk.specs.Desk.{same_entry}
use Rattle.rules.specs.Bench.{Bench, called, purse_at, kept, archived_by, logged_by}
use Rattle.rules.specs.Table.{archive_ok, in_table, table_ok}
use Rattle.rules.specs.Paid.{amount_of, matched_with, matched, claims}
use Rattle.rules.specs.Laid.{seen, is_zero_purse, is_zero_entry, held_ok}
use Rattle.rules.proofs.Facts.{details_equal, details_same, count_d, is_table, is_in, is_lists}
use Rattle.rules.proofs.Places.{places_used, places_fit, obeys, seen_ok}
use Rattle.rules.proofs.Claims.{loggers}
use Rattle.table_records.specs.Records.{collected}
use Rattle.table_records.proofs.Same.{turn_number}
use Rattle.claims.specs.Claims.{entry_by, log_entries, payee_logged, claim_beside, entry_claim, log_fits}

-- a purse has archived details: the entry is among those collected
archived_entry : (n : ℕ) (d : Details) (es : List Entry) → among same_details d (archived_by n es) ≡ among same_entry (entry_by n d) es
unfolding same_entry
archived_entry n d [] = refl
archived_entry n d (e ∷ es) =
    ⊎_elim
    (λ (w : eqb e.by.0 n ≡ true). rw (w, turn_number n e.by.0, w) (ap (λ (t : Bool). same_details d e.details || t) (archived_entry n d es)))
    (λ (w : eqb e.by.0 n ≡ false). rw (w, turn_number n e.by.0, w) (archived_entry n d es))
    (which (eqb e.by.0 n))

-- what each purse has archived, weighed by that purse, is the archive weighed by the logging purses
by_purse : (w : ℕ → Details → ℕ) (p : ℕ) (es : List Entry) → total (w p) (archived_by p es) ≡ total (λ (e : Entry). w e.by.0 e.details) (keep (λ (e : Entry). eqb e.by.0 p) es)
by_purse w p [] = refl
by_purse w p (e ∷ es) =
    ⊎_elim
    (λ (q : eqb e.by.0 p ≡ true). rw q (omega (arith, by_purse w p es, ap (λ (k : ℕ). w k e.details) (eqb-true e.by.0 p q))))
    (λ (q : eqb e.by.0 p ≡ false). rw q (by_purse w p es))
    (which (eqb e.by.0 p))

module _ (h : Held) (w : held_ok h ≡ true) where
  abbrev b : Bench
  b = seen h

  abbrev ok : table_ok b ≡ true
  ok = seen_ok h w

  abbrev n : ℕ
  n = length b.purses

  abbrev l : List Purse
  l = h.table

  abbrev a : Archive
  a = h.desk.archive

  count_is : n ≡ h.desk.purses
  count_is = places_used is_zero_purse 32 h.desk.purses h.table (obeys h w).purses

  -- a record of the table is the purse's
  at_place : (p : ℕ) → p < n → purse_at b p ≡ get_or l p zero_purse
  at_place p k = get_or-take h.desk.purses l p zero_purse (omega (arith, count_is))

  pub few_purses : h.desk.purses ≤ 32
  few_purses = places_fit is_zero_purse 32 h.desk.purses h.table (obeys h w).purses

  pub few_entries : a.count ≤ 256
  few_entries = places_fit is_zero_entry 256 a.count a.places (obeys h w).entries

  -- each log has its places
  pub logs_fit : every h.desk.purses (λ (p : ℕ). log_fits (get_or l p zero_purse)) ≡ true
  logs_fit =
      every-all (λ (p : ℕ). log_fits (get_or l p zero_purse)) h.desk.purses
      (λ (p : ℕ) (k : p < h.desk.purses).
      let less : p < n = omega (arith, count_is) in
      let well = (is_table b ok).well p less in
      let both : log_fits (purse_at b p) ≡ true = and_i (eq-eqb _ _ (log_long (called p) (purse_at b p) (wf_log (called p) (purse_at b p) well))) (le-leb _ _ (wf_bounds (called p) (purse_at b p) well).logged) in
      rw (at_place p less) at both)

  -- payees are purses of the table
  payees_logged : (p : ℕ) → p < n → all (λ (d : Details). ltb d.payee.0 n) (kept (purse_at b p)) ≡ true
  payees_logged p k =
      all_is same_details details_equal details_same (λ (d : Details). ltb d.payee.0 n) (kept (purse_at b p))
      (λ (d : Details) (c : 1 ≤ count_d d (kept (purse_at b p))). lt-ltb _ _ ((is_table b ok).names p k d (omega arith)).payee)

  payees_archived : all (λ (e : Entry). ltb e.details.payee.0 n) b.archive ≡ true
  unfolding archive_ok
  payees_archived =
      all_each (archive_ok b) (λ (e : Entry). ltb e.details.payee.0 n) b.archive
      (λ (e : Entry) (k : archive_ok b e ≡ true). lt-ltb _ _ (is_in b e.details (and_l (in_table b e.details) _ k)).payee)
      (is_lists b ok).entries

  -- what details add, told by the rules
  abbrev claim_of : ℕ → Details → ℕ
  claim_of p d = cond (matched_with b p d) (amount_of d) 0

  told : (p : ℕ) (d : Details) → ltb d.payee.0 n ≡ true → claim_of p d ≡ entry_claim l a (entry_by p d)
  unfolding claim_beside payee_logged
  told p d k =
      let less : d.payee.0 < n = ltb-true _ _ k in
      let place : d.payee.0 % 32 ≡ d.payee.0 = omega (arith, less, (is_table b ok).few) in
      rw (
        place,
        ← at_place d.payee.0 less,
        turn_number p d.payer.0,
        among-append same_details d (kept (purse_at b d.payee.0)) (archived_by d.payee.0 b.archive),
        archived_entry d.payee.0 d b.archive,
      )

  -- a purse's matched pairs: those of its log and those of its archive entries
  abbrev on_card : ℕ → ℕ
  on_card p = total (entry_claim l a) (map (entry_by p) (kept (get_or l p zero_purse)))

  of_purse : (p : ℕ) → p < n → total amount_of (matched b p) ≡ on_card p + total (claim_of p) (archived_by p b.archive)
  of_purse p k =
      total-keep amount_of (matched_with b p) (logged_by b p)
      ∙ (total-append (claim_of p) (kept (purse_at b p)) (archived_by p b.archive)
      ∙ ap (λ (m : ℕ). m + total (claim_of p) (archived_by p b.archive))
      (total_each (claim_of p) (λ (d : Details). entry_claim l a (entry_by p d)) (λ (d : Details). ltb d.payee.0 n) (kept (purse_at b p)) (told p) (payees_logged p k)
      ∙ (ap (λ (q : Purse). total (λ (d : Details). entry_claim l a (entry_by p d)) (kept q)) (at_place p k)
      ∙ sym (total-map (entry_claim l a) (entry_by p) (kept (get_or l p zero_purse))))))

  of_archive : sum_to n (λ (p : ℕ). total (claim_of p) (archived_by p b.archive)) ≡ total (entry_claim l a) (collected a)
  of_archive =
      sum_same n (λ (p : ℕ). total (claim_of p) (archived_by p b.archive))
      (λ (p : ℕ). total (λ (e : Entry). claim_of e.by.0 e.details) (keep (λ (e : Entry). eqb e.by.0 p) b.archive))
      (λ (p : ℕ) (k : p < n). by_purse claim_of p b.archive)
      ∙ (sum_shares (λ (e : Entry). claim_of e.by.0 e.details) (λ (e : Entry). e.by.0) n b.archive (loggers b ok)
      ∙ total_each (λ (e : Entry). claim_of e.by.0 e.details) (entry_claim l a) (λ (e : Entry). ltb e.details.payee.0 n) b.archive (λ (e : Entry) (k : ltb e.details.payee.0 n ≡ true). told e.by.0 e.details k) payees_archived)

  pub claims_once : claims b ≡ total (entry_claim l a) (log_entries h.desk.purses l) + total (entry_claim l a) (collected a)
  unfolding claims
  claims_once =
      sum_same n (λ (p : ℕ). total amount_of (matched b p)) (λ (p : ℕ). on_card p + total (claim_of p) (archived_by p b.archive)) of_purse
      ∙ (sum_add n on_card (λ (p : ℕ). total (claim_of p) (archived_by p b.archive))
      ∙ (ap (λ (m : ℕ). sum_to n on_card + m) of_archive
      ∙ (ap (λ (m : ℕ). sum_to m on_card + total (entry_claim l a) (collected a)) count_is
      ∙ ap (λ (m : ℕ). m + total (entry_claim l a) (collected a)) (sym (total_append_to (entry_claim l a) h.desk.purses (λ (p : ℕ). map (entry_by p) (kept (get_or l p zero_purse))))))))
