-- The claims figure (02, A1): of a table that obeys the rules each matched pair is counted once, there are at most 256 pairs, and the figure
-- is at most 1,280,000,000, so that four bytes hold it.
-- Why: a purse's logged details are all different, so that a pair is one entry of its payer; its payee has another, which belongs to no other
-- pair. So two entries stand for each pair, and there are at most 32 logs of 8 and 256 archive entries.
-- Assumes nothing.
use Prim.Native.Nat.{ℕ, zero, suc, ◌+◌, ◌*◌, ◌≤◌, ◌<◌}
use mathlib.Core.Path.{◌≡◌, refl, ◌∙◌, sym, ap}
use mathlib.Core.Bool.{Bool, true, false, ◌&&◌, not, cond}
use mathlib.Core.Logic.{⊎_elim}
use mathlib.Core.List.{List, [], ◌∷◌}
use lib.ListN.{length, length-append}
use lib.Seq.{length-take-le}
use lib.Dec.{ltb, leb, eqb}
use native.Mathlib.Omega.{arith}
use borrow.Author.Tests.{eqb-true, lt-ltb, ltb-true, le-leb, leb-true, leb-false, not-true}
use Rattle.purse.specs.declared.Seq.{Seq}
use Rattle.purse.specs.declared.Details.{Details}
use Rattle.purse.specs.Lists.{all, distinct, keep, total, sum_to, append_to}
use Rattle.purse.specs.Details.{max_amount, same_details, named, as_payer, as_payee}
use Rattle.purse.proofs.Bools.{and_l, and_r, and_i, not_i, refute, which}
use Rattle.purse.proofs.Lists.{all_each}
use Rattle.purse.proofs.Payments.{is_named, entry_named, entry_role, as_payer_lem, as_payee_lem}
use Rattle.purse.proofs.Rules.{Bounds, wf_bounds, wf_log}
use Rattle.purse.proofs.Log.{log_long}
use Rattle.purse.proofs.Count.{times_append, times_keep, among_times, distinct_is, total_le, total_ones, total_append_to, times_append_to, all_is, sum_le, sum_same, sum_add, sum_one, sum_shares}
use Rattle.desk.specs.declared.Entry.{Entry}
use Rattle.rules.specs.Bench.{Bench, called, purse_at, kept, archived_by, logged_by, has_logged}
use Rattle.rules.specs.Table.{in_table, archive_ok, table_ok}
use Rattle.rules.specs.Paid.{amount_of, matched_with, matched, claims}
use Rattle.rules.proofs.Facts.{details_equal, details_same, count_d, InTable, is_in, is_lists, Table, is_table}
use Rattle.rules.proofs.Kept.{never, own_entry}

cond_most : (t : Bool) (n : ℕ) → cond t n 0 ≤ n
cond_most true n = omega arith
cond_most false n = omega arith

cond_and : (s t : Bool) (n : ℕ) → cond (s && t) n 0 ≤ cond s n 0
cond_and true t n = cond_most t n
cond_and false t n = omega arith

-- what is kept for one of two reasons that exclude each other
two_parts : {A : Type 0} (w : A → ℕ) (f g : A → Bool) (l : List A) → all (λ (x : A). not (f x && g x)) l ≡ true → total w (keep f l) + total w (keep g l) ≤ total w l
two_parts w f g [] h = omega arith
two_parts {A} w f g (x ∷ l) h =
    let rest : total w (keep f l) + total w (keep g l) ≤ total w l = two_parts w f g l (and_r (not (f x && g x)) (all (λ (y : A). not (f y && g y)) l) h) in
    ⊎_elim
    (λ (a : f x ≡ true).
    ⊎_elim
    (λ (c : g x ≡ true). absurd (never (f x && g x) (and_i a c) (not-true _ (and_l (not (f x && g x)) (all (λ (y : A). not (f y && g y)) l) h))))
    (λ (c : g x ≡ false). rw (a, c) (omega arith))
    (which (g x)))
    (λ (a : f x ≡ false).
    ⊎_elim (λ (c : g x ≡ true). rw (a, c) (omega arith)) (λ (c : g x ≡ false). rw (a, c) (omega arith)) (which (g x)))
    (which (f x))

-- a legal amount each
amounts_most : (l : List Details) → all (λ (d : Details). leb (amount_of d) max_amount) l ≡ true → total amount_of l ≤ 5000000 * length l
amounts_most [] h = omega arith
amounts_most (d ∷ l) h =
    omega (arith, leb-true (amount_of d) max_amount (and_l (leb (amount_of d) max_amount) (all (λ (d : Details). leb (amount_of d) max_amount) l) h), amounts_most l (and_r (leb (amount_of d) max_amount) (all (λ (d : Details). leb (amount_of d) max_amount) l) h))

sum_scaled : (n : ℕ) (f : ℕ → ℕ) → sum_to n (λ (p : ℕ). 5000000 * f p) ≡ 5000000 * sum_to n f
sum_scaled zero f = refl
sum_scaled (suc n) f = omega (arith, sum_scaled n f)

sum_eights : (n : ℕ) → sum_to n (λ (p : ℕ). 8) ≡ 8 * n
sum_eights zero = refl
sum_eights (suc n) = omega (arith, sum_eights n)

module _ (b : Bench) (ok : table_ok b ≡ true) where
  abbrev n : ℕ
  n = length b.purses

  abbrev t : Table b
  t = is_table b ok

  logged_count : (p : ℕ) (d : Details) → count_d d (logged_by b p) ≡ count_d d (kept (purse_at b p)) + count_d d (archived_by p b.archive)
  logged_count p d = times_append same_details d (kept (purse_at b p)) (archived_by p b.archive)

  -- what a purse has logged is its entry, names purses of the table, and stands once
  logged_entry : (p : ℕ) → p < n → (d : Details) → 1 ≤ count_d d (logged_by b p) → named d ≡ true
  logged_entry p l d h = entry_named (called p) (purse_at b p).next d (own_entry b t p l d (omega (arith, logged_count p d)))

  logged_in : (p : ℕ) → p < n → (d : Details) → 1 ≤ count_d d (logged_by b p) → InTable b d
  logged_in p l d h =
      ⊎_elim
      (λ (e : leb 1 (count_d d (kept (purse_at b p))) ≡ true). t.names p l d (omega (arith, leb-true 1 (count_d d (kept (purse_at b p))) e)))
      (λ (e : leb 1 (count_d d (kept (purse_at b p))) ≡ false). (t.entry p d (omega (arith, logged_count p d, leb-false 1 (count_d d (kept (purse_at b p))) e))).table)
      (which (leb 1 (count_d d (kept (purse_at b p)))))

  logged_once : (p : ℕ) → p < n → (d : Details) → count_d d (logged_by b p) ≤ 1
  logged_once p l d = omega (arith, logged_count p d, t.once p l d)

  -- amounts are legal
  pub logged_legal : (p : ℕ) → p < n → all (λ (d : Details). leb (amount_of d) max_amount) (logged_by b p) ≡ true
  logged_legal p l =
      all_is same_details details_equal details_same (λ (d : Details). leb (amount_of d) max_amount) (logged_by b p)
      (λ (d : Details) (h : 1 ≤ count_d d (logged_by b p)). le-leb _ _ (is_named d (logged_entry p l d h)).most)

  matched_count : (p : ℕ) (d : Details) → count_d d (matched b p) ≡ cond (matched_with b p d) (count_d d (logged_by b p)) 0
  matched_count p d = times_keep same_details details_equal details_same (matched_with b p) d (logged_by b p)

  -- each pair is counted once
  pub matched_once : (p : ℕ) → p < n → distinct same_details (matched b p) ≡ true
  matched_once p l =
      distinct_is same_details details_equal details_same (matched b p)
      (λ (d : Details). omega (arith, matched_count p d, cond_most (matched_with b p d) (count_d d (logged_by b p)), logged_once p l d))

  -- of a purse's logged details: those of which it is the payer, those of which it is the payee
  abbrev pays : ℕ → List Details
  pays p = keep (λ (d : Details). eqb d.payer.0 p) (logged_by b p)

  abbrev gets : ℕ → List Details
  gets p = keep (λ (d : Details). eqb d.payee.0 p) (logged_by b p)

  -- only its payer counts a pair, only its payee holds the other entry
  abbrev paired : Details → ℕ
  paired d = cond (has_logged b d.payee.0 d) (count_d d (logged_by b d.payer.0)) 0

  all-matched : (d : Details) → count_d d (append_to n (matched b)) ≡ cond (ltb d.payer.0 n) (paired d) 0
  all-matched d =
      times_append_to same_details d n (matched b)
      ∙ (sum_same n (λ (p : ℕ). count_d d (matched b p)) (λ (p : ℕ). cond (eqb d.payer.0 p) (paired d) 0)
      (λ (p : ℕ) (l : p < n).
      ⊎_elim
      (λ (e : eqb d.payer.0 p ≡ true). matched_count p d ∙ rw e (ap (λ (k : ℕ). cond (has_logged b d.payee.0 d) (count_d d (logged_by b k)) 0) (sym (eqb-true d.payer.0 p e))))
      (λ (e : eqb d.payer.0 p ≡ false). matched_count p d ∙ rw e)
      (which (eqb d.payer.0 p)))
      ∙ sum_one n d.payer.0 (paired d))

  all_gets : (d : Details) → count_d d (append_to n gets) ≡ cond (ltb d.payee.0 n) (count_d d (logged_by b d.payee.0)) 0
  all_gets d =
      times_append_to same_details d n gets
      ∙ (sum_same n (λ (p : ℕ). count_d d (gets p)) (λ (p : ℕ). cond (eqb d.payee.0 p) (count_d d (logged_by b d.payee.0)) 0)
      (λ (p : ℕ) (l : p < n).
      times_keep same_details details_equal details_same (λ (d : Details). eqb d.payee.0 p) d (logged_by b p)
      ∙ ⊎_elim
      (λ (e : eqb d.payee.0 p ≡ true). rw e (ap (λ (k : ℕ). count_d d (logged_by b k)) (sym (eqb-true d.payee.0 p e))))
      (λ (e : eqb d.payee.0 p ≡ false). rw e)
      (which (eqb d.payee.0 p)))
      ∙ sum_one n d.payee.0 (count_d d (logged_by b d.payee.0)))

  -- the payee's entry of a pair belongs to no other
  partner : (d : Details) → count_d d (append_to n (matched b)) ≤ count_d d (append_to n gets)
  partner d =
      ⊎_elim
      (λ (e : leb 1 (count_d d (append_to n (matched b))) ≡ true). found (leb-true _ _ e))
      (λ (e : leb 1 (count_d d (append_to n (matched b))) ≡ false). omega (arith, leb-false 1 (count_d d (append_to n (matched b))) e))
      (which (leb 1 (count_d d (append_to n (matched b)))))
    where
      found : 1 ≤ count_d d (append_to n (matched b)) → count_d d (append_to n (matched b)) ≤ count_d d (append_to n gets)
      found h =
          ⊎_elim
          (λ (e : ltb d.payer.0 n ≡ true).
          let l : d.payer.0 < n = ltb-true _ _ e in
          ⊎_elim
          (λ (m : has_logged b d.payee.0 d ≡ true).
          let c : count_d d (append_to n (matched b)) ≡ count_d d (logged_by b d.payer.0) = all-matched d ∙ rw (e, m) in
          let g : count_d d (append_to n gets) ≡ count_d d (logged_by b d.payee.0) = all_gets d ∙ rw (lt-ltb _ _ (logged_in d.payer.0 l d (omega arith)).payee) in
          omega (arith, logged_once d.payer.0 l d, among_times same_details d (logged_by b d.payee.0) m))
          (λ (m : has_logged b d.payee.0 d ≡ false). let c : count_d d (append_to n (matched b)) ≡ 0 = all-matched d ∙ rw (e, m) in omega arith)
          (which (has_logged b d.payee.0 d)))
          (λ (e : ltb d.payer.0 n ≡ false). let c : count_d d (append_to n (matched b)) ≡ 0 = all-matched d ∙ rw e in omega arith)
          (which (ltb d.payer.0 n))

  -- a pair is two of the entries
  module _ (w : Details → ℕ) where
    abbrev of_matched : ℕ
    of_matched = sum_to n (λ (p : ℕ). total w (matched b p))

    of_payees : of_matched ≤ sum_to n (λ (p : ℕ). total w (gets p))
    of_payees =
        omega (arith, total_append_to w n (matched b), total_append_to w n gets, total_le same_details details_equal details_same w (append_to n (matched b)) (append_to n gets) partner)

    of_payers : of_matched ≤ sum_to n (λ (p : ℕ). total w (pays p))
    of_payers =
        sum_le n (λ (p : ℕ). total w (matched b p)) (λ (p : ℕ). total w (pays p))
        (λ (p : ℕ) (l : p < n).
        total_le same_details details_equal details_same w (matched b p) (pays p)
        (λ (d : Details).
        omega (
          arith,
          matched_count p d,
          times_keep same_details details_equal details_same (λ (d : Details). eqb d.payer.0 p) d (logged_by b p),
          cond_and (eqb d.payer.0 p) (has_logged b d.payee.0 d) (count_d d (logged_by b p)),
        )))

    both : sum_to n (λ (p : ℕ). total w (pays p) + total w (gets p)) ≤ sum_to n (λ (p : ℕ). total w (logged_by b p))
    both =
        sum_le n (λ (p : ℕ). total w (pays p) + total w (gets p)) (λ (p : ℕ). total w (logged_by b p))
        (λ (p : ℕ) (l : p < n).
        two_parts w (λ (d : Details). eqb d.payer.0 p) (λ (d : Details). eqb d.payee.0 p) (logged_by b p)
        (all_is same_details details_equal details_same (λ (d : Details). not (eqb d.payer.0 p && eqb d.payee.0 p)) (logged_by b p)
        (λ (d : Details) (h : 1 ≤ count_d d (logged_by b p)).
        not_i _
        (refute (eqb d.payer.0 p && eqb d.payee.0 p)
        (λ (e : (eqb d.payer.0 p && eqb d.payee.0 p) ≡ true).
        (is_named d (logged_entry p l d h)).apart
        (eqb-true _ _ (and_l (eqb d.payer.0 p) (eqb d.payee.0 p) e) ∙ sym (eqb-true _ _ (and_r (eqb d.payer.0 p) (eqb d.payee.0 p) e))))))))

    twice_matched : of_matched + of_matched ≤ sum_to n (λ (p : ℕ). total w (logged_by b p))
    twice_matched = omega (arith, of_payees, of_payers, both, sum_add n (λ (p : ℕ). total w (pays p)) (λ (p : ℕ). total w (gets p)))

  -- each archive entry's logging purse is one of the table
  pub loggers : all (λ (e : Entry). ltb e.by.0 n) b.archive ≡ true
  unfolding archive_ok
  loggers =
      all_each (archive_ok b) (λ (e : Entry). ltb e.by.0 n) b.archive
      (λ (e : Entry) (k : archive_ok b e ≡ true).
      let i : InTable b e.details = is_in b e.details (and_l (in_table b e.details) _ k) in
      let next : Seq = (purse_at b e.by.0).next in
      ⊎_elim
      (λ (a : as_payer e.by next e.details ≡ true). lt-ltb e.by.0 n (omega (arith, i.payer, (as_payer_lem e.by next e.details a).0)))
      (λ (a : as_payee e.by next e.details ≡ true). lt-ltb e.by.0 n (omega (arith, i.payee, (as_payee_lem e.by next e.details a).0)))
      (entry_role e.by next e.details (and_r (in_table b e.details) _ k)))
      (is_lists b ok).entries

  -- at most 8 in a log
  pub log_few : (p : ℕ) → p < n → length (kept (purse_at b p)) ≤ 8
  log_few p l =
      let q : Bounds (purse_at b p) = wf_bounds (called p) (purse_at b p) (t.well p l) in
      omega (arith, q.logged, length-take-le (purse_at b p).logged (purse_at b p).log (omega (arith, q.logged, log_long (called p) (purse_at b p) (wf_log (called p) (purse_at b p) (t.well p l)))))

  all_logged : sum_to n (λ (p : ℕ). length (logged_by b p)) ≤ 512
  all_logged =
      let each : sum_to n (λ (p : ℕ). length (logged_by b p)) ≤ sum_to n (λ (p : ℕ). 8 + length (archived_by p b.archive)) =
      sum_le n (λ (p : ℕ). length (logged_by b p)) (λ (p : ℕ). 8 + length (archived_by p b.archive))
      (λ (p : ℕ) (l : p < n). omega (arith, length-append (kept (purse_at b p)) (archived_by p b.archive), log_few p l))
      in
      omega (
        arith,
        each,
        sum_add n (λ (p : ℕ). 8) (λ (p : ℕ). length (archived_by p b.archive)),
        sum_eights n,
        in_archive b.archive loggers,
        t.few,
        t.few_entries,
      )
    where
      ones : (p : ℕ) (es : List Entry) → length (archived_by p es) ≡ total (λ (e : Entry). 1) (keep (λ (e : Entry). eqb e.by.0 p) es)
      ones p [] = refl
      ones p (e ∷ es) =
          ⊎_elim (λ (a : eqb e.by.0 p ≡ true). rw a (omega (arith, ones p es))) (λ (a : eqb e.by.0 p ≡ false). rw a (ones p es)) (which (eqb e.by.0 p))

      in_archive : (es : List Entry) → all (λ (e : Entry). ltb e.by.0 n) es ≡ true → sum_to n (λ (p : ℕ). length (archived_by p es)) ≡ length es
      in_archive es h =
          sum_same n (λ (p : ℕ). length (archived_by p es)) (λ (p : ℕ). total (λ (e : Entry). 1) (keep (λ (e : Entry). eqb e.by.0 p) es)) (λ (p : ℕ) (l : p < n). ones p es)
          ∙ (sum_shares (λ (e : Entry). 1) (λ (e : Entry). e.by.0) n es h ∙ total_ones es)

  -- "at most 256 pairs"
  pub pairs_most : sum_to n (λ (p : ℕ). length (matched b p)) ≤ 256
  pairs_most =
      let m : sum_to n (λ (p : ℕ). total (λ (d : Details). 1) (matched b p)) ≡ sum_to n (λ (p : ℕ). length (matched b p)) =
      sum_same n (λ (p : ℕ). total (λ (d : Details). 1) (matched b p)) (λ (p : ℕ). length (matched b p)) (λ (p : ℕ) (l : p < n). total_ones (matched b p)) in
      let g : sum_to n (λ (p : ℕ). total (λ (d : Details). 1) (logged_by b p)) ≡ sum_to n (λ (p : ℕ). length (logged_by b p)) =
      sum_same n (λ (p : ℕ). total (λ (d : Details). 1) (logged_by b p)) (λ (p : ℕ). length (logged_by b p)) (λ (p : ℕ) (l : p < n). total_ones (logged_by b p)) in
      omega (arith, m, g, twice_matched (λ (d : Details). 1), all_logged)

  -- so the figure fits four bytes
  pub claims_most : claims b ≤ 1280000000
  unfolding claims
  claims_most =
      omega (
        arith,
        sum_le n (λ (p : ℕ). total amount_of (matched b p)) (λ (p : ℕ). 5000000 * length (matched b p))
            (λ (p : ℕ) (l : p < n). amounts_most (matched b p) (kept-legal (logged_by b p) (logged_legal p l) p)),
        sum_scaled n (λ (p : ℕ). length (matched b p)),
        pairs_most,
      )
    where
      kept-legal : (l : List Details) → all (λ (d : Details). leb (amount_of d) max_amount) l ≡ true → (p : ℕ) → all (λ (d : Details). leb (amount_of d) max_amount) (keep (matched_with b p) l) ≡ true
      kept-legal [] h p = refl
      kept-legal (d ∷ l) h p =
          ⊎_elim
          (λ (e : matched_with b p d ≡ true). rw e (and_i (and_l (leb (amount_of d) max_amount) (all (λ (d : Details). leb (amount_of d) max_amount) l) h) (kept-legal l (and_r (leb (amount_of d) max_amount) (all (λ (d : Details). leb (amount_of d) max_amount) l) h) p)))
          (λ (e : matched_with b p d ≡ false). rw e (kept-legal l (and_r (leb (amount_of d) max_amount) (all (λ (d : Details). leb (amount_of d) max_amount) l) h) p))
          (which (matched_with b p d))
