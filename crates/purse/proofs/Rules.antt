-- The rules about one purse as records of facts: what a well-formed purse promises, and what makes one well formed.
-- Assumes nothing.
use Prim.Native.Nat.{◌+◌, ◌≤◌, ◌<◌}
use mathlib.Core.Path.{◌≡◌, ◌∙◌, ap}
use mathlib.Core.Bool.{Bool, true, ◌&&◌, ◌||◌, and-false}
use mathlib.Core.Logic.{⊎_elim}
use lib.Dec.{leb, eqb}
use native.Mathlib.Omega.{arith}
use borrow.Author.Tests.{leb-true, ne_eqb, le-leb}
use Rattle.purse.specs.declared.Name.{Name}
use Rattle.purse.specs.declared.Purse.{Purse}
use Rattle.purse.specs.Details.{zero_details, same_details, named, as_payer, as_payee, entry_ok}
use Rattle.purse.specs.Purse.{idle_ok, bounds_ok, pays_ok, gets_ok, busy_ok, log_ok, well_formed}
use Rattle.purse.proofs.Bools.{and_l, and_r, no_and, or_l, or_r, either, and_i, or_inl, or_inr}

module _ (own : Name) (p : Purse) (w : well_formed own p ≡ true) where
  pub busy : (p.status ≡ 0 → ⊥) → busy_ok own p ≡ true
  unfolding well_formed idle_ok
  busy s =
      or_r (idle_ok p) (busy_ok own p) (and_r (bounds_ok p) (idle_ok p || busy_ok own p) (and_l (bounds_ok p && (idle_ok p || busy_ok own p)) (log_ok own p) w))
      (no_and (eqb p.status 0) (same_details p.details zero_details) (ne_eqb p.status 0 s))

  pub idle : p.status ≡ 0 → idle_ok p ≡ true
  unfolding well_formed busy_ok
  idle s =
      or_l (idle_ok p) (busy_ok own p) (and_r (bounds_ok p) (idle_ok p || busy_ok own p) (and_l (bounds_ok p && (idle_ok p || busy_ok own p)) (log_ok own p) w))
      (ap (λ (x : Bool). named p.details && leb p.logged 7 && x)
      (simp (ne_eqb p.status 1 (λ (z : p.status ≡ 1). omega arith), ne_eqb p.status 2 (λ (z : p.status ≡ 2). omega arith), ne_eqb p.status 3 (λ (z : p.status ≡ 3). omega arith)))
      ∙ and-false (named p.details && leb p.logged 7))

  pub busy_parts : (p.status ≡ 0 → ⊥) → (pays_ok p && as_payer own p.next p.details || gets_ok p && as_payee own p.next p.details) ≡ true
  unfolding busy_ok
  busy_parts s =
      and_r (named p.details && leb p.logged 7)
      (pays_ok p && as_payer own p.next p.details || gets_ok p && as_payee own p.next p.details)
      (busy s)

  -- a busy purse has room in its log
  pub room : (p.status ≡ 0 → ⊥) → p.logged < 8
  unfolding busy_ok
  room s =
      let h : p.logged ≤ 7 = leb-true p.logged 7
      (and_r (named p.details) (leb p.logged 7)
      (and_l (named p.details && leb p.logged 7)
      (pays_ok p && as_payer own p.next p.details || gets_ok p && as_payee own p.next p.details)
      (busy s)))
      in omega arith

  -- a payer that waits for its request can pay
  pub can_pay : p.status ≡ 1 → p.details.amount.0 ≤ p.balance.0
  can_pay s =
      leb-true p.details.amount.0 p.balance.0
      (and_r (eqb p.status 1) (leb p.details.amount.0 p.balance.0)
      (or_l (eqb p.status 1 && leb p.details.amount.0 p.balance.0) (eqb p.status 3)
      (and_l (pays_ok p) (as_payer own p.next p.details)
      (or_l (pays_ok p && as_payer own p.next p.details) (gets_ok p && as_payee own p.next p.details)
      (busy_parts (λ (z : p.status ≡ 0). omega arith))
      (no_and (gets_ok p) (as_payee own p.next p.details)
      (no_and (eqb p.status 2) (leb (p.balance.0 + p.details.amount.0) 5000000)
      (ne_eqb p.status 2 (λ (z : p.status ≡ 2). omega arith))))))
      (ne_eqb p.status 3 (λ (z : p.status ≡ 3). omega arith))))

  -- a payee that waits for its value has room for it
  pub can_get : p.status ≡ 2 → p.balance.0 + p.details.amount.0 ≤ 5000000
  can_get s =
      leb-true (p.balance.0 + p.details.amount.0) 5000000
      (and_r (eqb p.status 2) (leb (p.balance.0 + p.details.amount.0) 5000000)
      (and_l (gets_ok p) (as_payee own p.next p.details)
      (or_r (pays_ok p && as_payer own p.next p.details) (gets_ok p && as_payee own p.next p.details)
      (busy_parts (λ (z : p.status ≡ 0). omega arith))
      (no_and (pays_ok p) (as_payer own p.next p.details) (simp (ne_eqb p.status 1 (λ (z : p.status ≡ 1). omega arith), ne_eqb p.status 3 (λ (z : p.status ≡ 3). omega arith)))))))

pub record Bounds (p : Purse) : Type 0 where
  pub balance : p.balance.0 ≤ 5000000
  pub next : 1 ≤ p.next.0
  pub logged : p.logged ≤ 8

module _ (own : Name) (p : Purse) (w : well_formed own p ≡ true) where
  pub wf_log : log_ok own p ≡ true
  unfolding well_formed
  wf_log = and_r (bounds_ok p && (idle_ok p || busy_ok own p)) (log_ok own p) w

  pub wf_bounds : Bounds p
  unfolding well_formed
  wf_bounds =
      let b : bounds_ok p ≡ true = and_l (bounds_ok p) (idle_ok p || busy_ok own p) (and_l (bounds_ok p && (idle_ok p || busy_ok own p)) (log_ok own p) w) in
      let a : (leb p.balance.0 5000000 && leb 1 p.next.0) ≡ true = and_l _ (leb p.logged 8) b in
      record {
        balance = leb-true _ _ (and_l (leb p.balance.0 5000000) (leb 1 p.next.0) a);
        next = leb-true _ _ (and_r (leb p.balance.0 5000000) (leb 1 p.next.0) a);
        logged = leb-true _ _ (and_r (leb p.balance.0 5000000 && leb 1 p.next.0) (leb p.logged 8) b);
      }

pub bounds_is : (q : Purse) → Bounds q → bounds_ok q ≡ true
bounds_is q b = and_i (and_i (le-leb _ _ b.balance) (le-leb _ _ b.next)) (le-leb _ _ b.logged)

pub well_busy : (own : Name) (q : Purse) → Bounds q → busy_ok own q ≡ true → log_ok own q ≡ true → well_formed own q ≡ true
unfolding well_formed
well_busy own q b h l = and_i (and_i (bounds_is q b) (or_inr (idle_ok q) (busy_ok own q) h)) l

pub well_idle : (own : Name) (q : Purse) → Bounds q → idle_ok q ≡ true → log_ok own q ≡ true → well_formed own q ≡ true
unfolding well_formed
well_idle own q b h l = and_i (and_i (bounds_is q b) (or_inl (idle_ok q) (busy_ok own q) h)) l

-- the running details of a busy purse are an entry
pub busy_entry : (own : Name) (p : Purse) → busy_ok own p ≡ true → entry_ok own p.next p.details ≡ true
unfolding busy_ok entry_ok
busy_entry own p h =
    let nl : (named p.details && leb p.logged 7) ≡ true =
    and_l (named p.details && leb p.logged 7) (pays_ok p && as_payer own p.next p.details || gets_ok p && as_payee own p.next p.details) h
    in
    and_i (and_l (named p.details) (leb p.logged 7) nl)
    (⊎_elim
    (λ (a : (pays_ok p && as_payer own p.next p.details) ≡ true). or_inl (as_payer own p.next p.details) (as_payee own p.next p.details) (and_r (pays_ok p) _ a))
    (λ (a : (gets_ok p && as_payee own p.next p.details) ≡ true). or_inr (as_payer own p.next p.details) (as_payee own p.next p.details) (and_r (gets_ok p) _ a))
    (either (pays_ok p && as_payer own p.next p.details) (gets_ok p && as_payee own p.next p.details)
    (and_r (named p.details && leb p.logged 7) (pays_ok p && as_payer own p.next p.details || gets_ok p && as_payee own p.next p.details) h)))

pub idle_is : (q : Purse) → q.status ≡ 0 → q.details ≡ zero_details → idle_ok q ≡ true
unfolding idle_ok same_details
idle_is q e f = simp (e, f)
