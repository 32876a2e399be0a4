-- What a well-formed purse promises, by counts: its role, its entries, and its log after an abort or a collect.
-- Assumes nothing.
use Prim.Native.Nat.{ℕ, suc, ◌+◌, ◌-◌, ◌≤◌, ◌<◌}
use mathlib.Core.Path.{◌≡◌, ◌∙◌, sym, ap}
use mathlib.Core.Bool.{true, ◌&&◌, ◌||◌}
use mathlib.Core.Logic.{◌⊎◌, inl, inr, ⊎_elim}
use mathlib.Core.List.{List, [], ◌∷◌, ◌++◌}
use lib.ListN.{length, get_or, take, drop, set, length-drop}
use lib.Seq.{take-suc-set, drop-cons, take-append-le}
use lib.Dec.{leb, eqb}
use native.Mathlib.Numerals.{add-one}
use native.Mathlib.Omega.{arith}
use borrow.Author.Tests.{eqb-true, ne_eqb, le-leb}
use Rattle.purse.specs.declared.Name.{Name}
use Rattle.purse.specs.declared.Details.{Details}
use Rattle.purse.specs.declared.Purse.{Purse}
use Rattle.purse.specs.Details.{zero_details, same_details, named, as_payer, as_payee, entry_ok}
use Rattle.purse.specs.Purse.{ceiling, pays_ok, gets_ok, idle_ok, busy_ok, place_ok, log_ok, well_formed}
use Rattle.purse.specs.Step.{stopped, taken}
use Rattle.purse.proofs.Bools.{and_l, and_r, no_and, or_l, or_r, either}
use Rattle.purse.proofs.Rules.{busy, busy_parts, room, wf_log, wf_bounds, Bounds}
use Rattle.purse.proofs.Payments.{as_payer_lem, as_payee_lem, is_named}
use Rattle.purse.proofs.Log.{used_at_lem, log_long}
use Rattle.purse.proofs.Lists.{all_take}
use Rattle.purse.proofs.Count.{bit, times_append, is_all}
use Rattle.rules.specs.Bench.{opened_at, kept}
use Rattle.rules.proofs.Facts.{details_equal, details_same, count_d}

pub record OwnPayer (own : Name) (p : Purse) : Type 0 where
  pub name : p.details.payer.0 ≡ own.0
  pub low : 1 ≤ p.details.payerseq.0
  pub high : p.details.payerseq.0 < p.next.0

pub record OwnPayee (own : Name) (p : Purse) : Type 0 where
  pub name : p.details.payee.0 ≡ own.0
  pub low : 1 ≤ p.details.payeeseq.0
  pub high : p.details.payeeseq.0 < p.next.0

module _ (own : Name) (p : Purse) (w : well_formed own p ≡ true) where
  -- in epr and epa the purse is the payer, in epv the payee
  pub payer_role : (p.status ≡ 0 → ⊥) → (p.status ≡ 2 → ⊥) → OwnPayer own p
  payer_role s t =
      let a : (pays_ok p && as_payer own p.next p.details) ≡ true =
      or_l (pays_ok p && as_payer own p.next p.details) (gets_ok p && as_payee own p.next p.details) (busy_parts own p w s)
      (no_and (gets_ok p) (as_payee own p.next p.details) (no_and (eqb p.status 2) (leb (p.balance.0 + p.details.amount.0) (ceiling p)) (ne_eqb p.status 2 t)))
      in
      let e : (p.details.payer.0 ≡ own.0) × ((1 ≤ p.details.payerseq.0) × (p.details.payerseq.0 < p.next.0)) =
      as_payer_lem own p.next p.details (and_r (pays_ok p) (as_payer own p.next p.details) a)
      in
      record { name = e.0; low = e.1.0; high = e.1.1 }

  pub payee_role : p.status ≡ 2 → OwnPayee own p
  payee_role s =
      let a : (gets_ok p && as_payee own p.next p.details) ≡ true =
      or_r (pays_ok p && as_payer own p.next p.details) (gets_ok p && as_payee own p.next p.details) (busy_parts own p w (λ (z : p.status ≡ 0). omega arith))
      (no_and (pays_ok p) (as_payer own p.next p.details) (simp (ne_eqb p.status 1 (λ (z : p.status ≡ 1). omega arith), ne_eqb p.status 3 (λ (z : p.status ≡ 3). omega arith))))
      in
      let e : (p.details.payee.0 ≡ own.0) × ((1 ≤ p.details.payeeseq.0) × (p.details.payeeseq.0 < p.next.0)) =
      as_payee_lem own p.next p.details (and_r (gets_ok p) (as_payee own p.next p.details) a)
      in
      record { name = e.0; low = e.1.0; high = e.1.1 }

  pub busy_named : (p.status ≡ 0 → ⊥) → named p.details ≡ true
  unfolding busy_ok
  busy_named s =
      and_l (named p.details) (leb p.logged 7)
      (and_l (named p.details && leb p.logged 7) (pays_ok p && as_payer own p.next p.details || gets_ok p && as_payee own p.next p.details) (busy own p w s))

  pub busy_apart : (p.status ≡ 0 → ⊥) → p.details.payer.0 ≡ p.details.payee.0 → ⊥
  busy_apart s = (is_named p.details (busy_named s)).apart

  -- a status above 1 is epv or epa
  pub status_high : 2 ≤ p.status → (p.status ≡ 2) ⊎ (p.status ≡ 3)
  status_high l =
      ⊎_elim
      (λ (a : (pays_ok p && as_payer own p.next p.details) ≡ true).
      inr (eqb-true _ _ (or_r (eqb p.status 1 && leb p.details.amount.0 p.balance.0) (eqb p.status 3)
      (and_l (pays_ok p) (as_payer own p.next p.details) a)
      (no_and (eqb p.status 1) (leb p.details.amount.0 p.balance.0) (ne_eqb p.status 1 (λ (z : p.status ≡ 1). omega arith))))))
      (λ (a : (gets_ok p && as_payee own p.next p.details) ≡ true).
      inl (eqb-true _ _ (and_l (eqb p.status 2) (leb (p.balance.0 + p.details.amount.0) (ceiling p)) (and_l (gets_ok p) (as_payee own p.next p.details) a))))
      (either (pays_ok p && as_payer own p.next p.details) (gets_ok p && as_payee own p.next p.details) (busy_parts own p w (λ (z : p.status ≡ 0). omega arith)))

module _ (own : Name) (p : Purse) (w : well_formed own p ≡ true) where
  -- each entry of the log has a number that the purse has used
  pub kept_entry : (d : Details) → 1 ≤ count_d d (kept p) → entry_ok own p.next d ≡ true
  kept_entry =
      let b : Bounds p = wf_bounds own p w in
      is_all same_details details_equal details_same (entry_ok own p.next) (kept p)
      (all_take (entry_ok own p.next) p.log zero_details p.logged (omega (arith, log_long own p (wf_log own p w), b.logged)) (λ (i : ℕ) (l : i < p.logged).
      (used_at_lem own p (wf_log own p w) i (omega (arith, b.logged)) l).entry))

  -- the log after an abort: the running details at its end
  pub kept-stopped : (p.status ≡ 0 → ⊥) → (d : Details) → count_d d (kept (stopped p)) ≡ count_d d (kept p) + bit (same_details d p.details)
  kept-stopped s d =
      let e : take (p.logged + 1) (set p.log p.logged p.details) ≡ kept p ++ (p.details ∷ []) =
      rw (add-one p.logged) (take-suc-set p.log p.logged p.details (omega (arith, log_long own p (wf_log own p w), room own p w s)))
      in
      ap (count_d d) e ∙ omega (arith, times_append same_details d (kept p) (p.details ∷ []))

  -- the log before a collect: the oldest entry, and the log after it
  pub kept-taken : 0 < p.logged → (d : Details) → count_d d (kept p) ≡ bit (same_details d (get_or p.log 0 zero_details)) + count_d d (kept (taken p))
  kept-taken o d =
      let long : length p.log ≡ 8 = log_long own p (wf_log own p w) in
      let b : Bounds p = wf_bounds own p w in
      let n : p.logged ≡ suc (p.logged - 1) = omega arith in
      let c : p.log ≡ get_or p.log 0 zero_details ∷ drop 1 p.log = drop-cons p.log 0 zero_details (omega arith) in
      let t : take (p.logged - 1) (drop 1 p.log ++ (zero_details ∷ [])) ≡ take (p.logged - 1) (drop 1 p.log) =
      take-append-le (p.logged - 1) (drop 1 p.log) (zero_details ∷ []) (omega (arith, length-drop 1 p.log, b.logged))
      in
      ap (λ (k : ℕ). count_d d (take k p.log)) n
      ∙ (ap (λ (l : List Details). count_d d (take (suc (p.logged - 1)) l)) c
      ∙ ap (λ (l : List Details). bit (same_details d (get_or p.log 0 zero_details)) + count_d d l) (sym t))

-- an opened purse is well formed
pub well_opened : (own : Name) (v : ℕ) → v ≤ ceiling (opened_at v) → well_formed own (opened_at v) ≡ true
unfolding well_formed idle_ok log_ok place_ok same_details
well_opened own v h = rw (le-leb v (ceiling (opened_at v)) h)
