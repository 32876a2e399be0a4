-- What it says of a head that a step's tests all passed: the next number, the sum, the difference or the log place is there.
-- Why: the number is 0, so no test of the list applies (`passed`), each in its turn.
-- Assumes nothing.
use Prim.Native.Nat.{ℕ, ◌+◌, ◌≤◌, ◌<◌}
use mathlib.Core.Path.{◌≡◌}
use mathlib.Core.Bool.{true, ◌||◌, not}
use mathlib.Core.List.{List, [], ◌∷◌, ◌++◌}
use lib.Dec.{ltb, eqb}
use native.Mathlib.Omega.{arith}
use borrow.Author.Tests.{leb-true, ltb-true, ltb-false, eqb-false, eq-eqb, ne_eqb, not-false}
use Rattle.purse.specs.declared.Name.{Name}
use Rattle.purse.specs.declared.Amount.{Amount}
use Rattle.purse.specs.declared.Message.{Message}
use Rattle.purse.specs.Details.{legal}
use Rattle.purse.specs.Tests.{Test, ◌⇒◌, first}
use Rattle.purse.proofs.Tests.{passed}
use Rattle.refusals.specs.declared.Head.{Head}
use Rattle.refusals.specs.Numbers.{start_tests, from_number, to_number, expected, fits, deliver_number, abort_number, collect_number, raise_tests, load_number}

module _ (h : Head) (own : Name) where
  start_passed : (other : Name) (a : Amount) (rest : List Test) → first (start_tests h own other a ++ rest) ≡ 0 → (h.next.0 ≡ 4294967295 → ⊥)
  start_passed other a rest e4 =
      let e6 : ◌≡◌ {A = ℕ} _ 0 = (passed (ltb 31 own.0) 4 _ (omega arith) e4).1 in
      let e7 : ◌≡◌ {A = ℕ} _ 0 = (passed (ltb 31 other.0 || eqb other.0 own.0) 6 _ (omega arith) e6).1 in
      let e8 : ◌≡◌ {A = ℕ} _ 0 = (passed (not (legal a)) 7 _ (omega arith) e7).1 in
      let e9 : ◌≡◌ {A = ℕ} _ 0 = (passed (not (eqb h.status 0)) 8 _ (omega arith) e8).1 in
      eqb-false _ _ (passed (eqb h.next.0 4294967295) 9 _ (omega arith) e9).0

  pub from_passed : (other : Name) (a : Amount) → from_number h own other a ≡ 0 → (h.next.0 ≡ 4294967295 → ⊥)
  unfolding from_number
  from_passed other a e = start_passed other a ((ltb h.balance.0 a.0 ⇒ 11) ∷ []) e

  pub to_passed : (other : Name) (a : Amount) → to_number h own other a ≡ 0 → (h.next.0 ≡ 4294967295 → ⊥)
  unfolding to_number
  to_passed other a e = start_passed other a ((ltb h.most.0 (h.balance.0 + a.0) ⇒ 12) ∷ []) e

  deliver_passed : (m : Message) → deliver_number h own m ≡ 0 → fits h m.kind ≡ true
  unfolding deliver_number
  deliver_passed m e =
      let e13 : ◌≡◌ {A = ℕ} _ 0 = (passed (ltb 31 own.0) 4 _ (omega arith) e).1 in
      let e2 : ◌≡◌ {A = ℕ} _ 0 = (passed (not (expected h m)) 13 _ (omega arith) e13).1 in
      not-false (fits h m.kind) (passed (not (fits h m.kind)) 2 0 (omega arith) e2).0

  pub pay_passed : (m : Message) → deliver_number h own m ≡ 0 → m.kind ≡ 1 → h.details.amount.0 ≤ h.balance.0
  unfolding fits
  pay_passed m e k = leb-true _ _ (rw (eq-eqb m.kind 1 k) at (deliver_passed m e))

  pub get_passed : (m : Message) → deliver_number h own m ≡ 0 → m.kind ≡ 2 → h.balance.0 + h.details.amount.0 ≤ h.most.0
  unfolding fits
  get_passed m e k =
      leb-true _ _
      (rw (ne_eqb m.kind 1 (λ (z : m.kind ≡ 1). omega arith), eq-eqb m.kind 2 k) at (deliver_passed m e))

  pub abort_passed : abort_number h own ≡ 0 → ((h.status ≡ 0 → ⊥) → h.logged < 8)
  unfolding abort_number
  abort_passed e s =
      let e2 : ◌≡◌ {A = ℕ} _ 0 = (passed (ltb 31 own.0) 4 _ (omega arith) e).1 in
      let r : (eqb h.status 0 || ltb h.logged 8) ≡ true =
      not-false _ (passed (not (eqb h.status 0 || ltb h.logged 8)) 2 0 (omega arith) e2).0 in
      ltb-true _ _ (rw (ne_eqb h.status 0 s) at r)

  pub collect_passed : collect_number h own ≡ 0 → 0 < h.logged
  unfolding collect_number
  collect_passed e =
      let e14 : ◌≡◌ {A = ℕ} _ 0 = (passed (ltb 31 own.0) 4 _ (omega arith) e).1 in
      let l : (h.logged ≡ 0 → ⊥) = eqb-false h.logged 0 (passed (eqb h.logged 0) 14 0 (omega arith) e14).0 in
      omega arith

  raise_passed : (a : Amount) → first (raise_tests h a) ≡ 0 → h.balance.0 + a.0 ≤ h.most.0
  raise_passed a e8 =
      let e12 : ◌≡◌ {A = ℕ} _ 0 = (passed (not (eqb h.status 0)) 8 _ (omega arith) e8).1 in
      ltb-false _ _ (passed (ltb h.most.0 (h.balance.0 + a.0)) 12 0 (omega arith) e12).0

  pub load_passed : (a : Amount) → load_number h own a ≡ 0 → h.balance.0 + a.0 ≤ h.most.0
  unfolding load_number
  load_passed a e =
      let e7 : ◌≡◌ {A = ℕ} _ 0 = (passed (ltb 31 own.0) 4 _ (omega arith) e).1 in
      raise_passed a (passed (not (legal a)) 7 _ (omega arith) e7).1
