-- What it says of a purse that a step's tests all passed.
-- Assumes nothing.
use Prim.Native.Nat.{ℕ, ◌+◌, ◌≤◌, ◌<◌}
use mathlib.Core.Path.{◌≡◌}
use mathlib.Core.Bool.{true, false, ◌&&◌, ◌||◌, not, cond}
use mathlib.Core.Logic.{⊎_elim}
use mathlib.Core.List.{List, [], ◌∷◌, ◌++◌}
use lib.Dec.{ltb, leb, eqb}
use native.Mathlib.Omega.{arith}
use borrow.Author.Tests.{leb-false, ltb-false, eqb-true, eqb-false, not-false}
use Rattle.purse.specs.declared.Name.{Name}
use Rattle.purse.specs.declared.Amount.{Amount}
use Rattle.purse.specs.declared.Message.{Message}
use Rattle.purse.specs.declared.Purse.{Purse}
use Rattle.purse.specs.Details.{same_details, legal}
use Rattle.purse.specs.Purse.{ceiling, well_formed}
use Rattle.purse.specs.Tests.{Test, ◌⇒◌, first}
use Rattle.purse.specs.Step.{own_tests, start_tests, from_number, to_number, expected, deliver_number, abort_number, collect_number, raise_tests, load_number}
use Rattle.purse.proofs.Bools.{and_l, and_r, nor_l, nor_r, either}
use Rattle.purse.proofs.Tests.{passed}
use Rattle.purse.proofs.Rules.{can_pay, can_get}

-- the first tests of every step
pub own_passed : (p : Purse) (own : Name) (rest : List Test) → first (own_tests p own ++ rest) ≡ 0 → (well_formed own p ≡ true) × (first rest ≡ 0)
own_passed p own rest e =
    let e2 : (not (well_formed own p) ≡ false) × (◌≡◌ {A = ℕ} _ 0) = passed (not (well_formed own p)) 2 _ (omega arith) e in
    (not-false _ e2.0, (passed (ltb 31 own.0) 4 _ (omega arith) e2.1).1)

-- what a start that is not refused has passed
pub record Ready (p : Purse) (own other : Name) (a : Amount) (rest : List Test) : Type 0 where
  pub well : well_formed own p ≡ true
  pub own_name : own.0 ≤ 31
  pub other_name : other.0 ≤ 31
  pub apart : other.0 ≡ own.0 → ⊥
  pub amount : legal a ≡ true
  pub idle : p.status ≡ 0
  pub number : p.next.0 ≡ 4294967295 → ⊥
  pub room : p.logged < 8
  pub none : first rest ≡ 0

pub ready : (p : Purse) (own other : Name) (a : Amount) (rest : List Test) → first (start_tests p own other a ++ rest) ≡ 0 → Ready p own other a rest
ready p own other a rest e =
    let e4 : ◌≡◌ {A = ℕ} _ 0 = (passed (not (well_formed own p)) 2 _ (omega arith) e).1 in
    let e6 : ◌≡◌ {A = ℕ} _ 0 = (passed (ltb 31 own.0) 4 _ (omega arith) e4).1 in
    let e7 : ◌≡◌ {A = ℕ} _ 0 = (passed (ltb 31 other.0 || eqb other.0 own.0) 6 _ (omega arith) e6).1 in
    let e8 : ◌≡◌ {A = ℕ} _ 0 = (passed (not (legal a)) 7 _ (omega arith) e7).1 in
    let e9 : ◌≡◌ {A = ℕ} _ 0 = (passed (not (eqb p.status 0)) 8 _ (omega arith) e8).1 in
    let e10 : ◌≡◌ {A = ℕ} _ 0 = (passed (eqb p.next.0 4294967295) 9 _ (omega arith) e9).1 in
    let o : (ltb 31 other.0 || eqb other.0 own.0) ≡ false = (passed (ltb 31 other.0 || eqb other.0 own.0) 6 _ (omega arith) e6).0 in
    record {
      well = not-false _ (passed (not (well_formed own p)) 2 _ (omega arith) e).0;
      own_name = ltb-false _ _ (passed (ltb 31 own.0) 4 _ (omega arith) e4).0;
      other_name = ltb-false _ _ (nor_l (ltb 31 other.0) (eqb other.0 own.0) o);
      apart = eqb-false _ _ (nor_r (ltb 31 other.0) (eqb other.0 own.0) o);
      amount = not-false _ (passed (not (legal a)) 7 _ (omega arith) e7).0;
      idle = eqb-true _ _ (not-false _ (passed (not (eqb p.status 0)) 8 _ (omega arith) e8).0);
      number = eqb-false _ _ (passed (eqb p.next.0 4294967295) 9 _ (omega arith) e9).0;
      room = leb-false _ _ (passed (leb 8 p.logged) 10 (first rest) (omega arith) e10).0;
      none = (passed (leb 8 p.logged) 10 (first rest) (omega arith) e10).1;
    }

-- a start-from: within the balance
abbrev pub Paying : Purse → Name → Name → Amount → Type 0
Paying p own other a = Ready p own other a ((ltb p.balance.0 a.0 ⇒ 11) ∷ [])

pub ready_from : (p : Purse) (own other : Name) (a : Amount) → from_number p own other a ≡ 0 → Paying p own other a
unfolding from_number
ready_from p own other a e = ready p own other a ((ltb p.balance.0 a.0 ⇒ 11) ∷ []) e

pub within : (p : Purse) (own other : Name) (a : Amount) → Paying p own other a → a.0 ≤ p.balance.0
within p own other a r = ltb-false _ _ (passed (ltb p.balance.0 a.0) 11 0 (omega arith) r.none).0

-- a start-to: within the ceiling
abbrev pub Taking : Purse → Name → Name → Amount → Type 0
Taking p own other a = Ready p own other a ((ltb (ceiling p) (p.balance.0 + a.0) ⇒ 12) ∷ [])

pub ready_to : (p : Purse) (own other : Name) (a : Amount) → to_number p own other a ≡ 0 → Taking p own other a
unfolding to_number
ready_to p own other a e = ready p own other a ((ltb (ceiling p) (p.balance.0 + a.0) ⇒ 12) ∷ []) e

pub beneath : (p : Purse) (own other : Name) (a : Amount) → Taking p own other a → p.balance.0 + a.0 ≤ ceiling p
beneath p own other a r = ltb-false _ _ (passed (ltb (ceiling p) (p.balance.0 + a.0)) 12 0 (omega arith) r.none).0

pub alike : (x y i k : ℕ) → x ≡ k → (eqb x i && eqb y i) ≡ true → y ≡ k
alike x y i k h e =
    let a : x ≡ i = eqb-true x i (and_l (eqb x i) (eqb y i) e) in
    let b : y ≡ i = eqb-true y i (and_r (eqb x i) (eqb y i) e) in
    omega arith

-- the status of a purse that expects a message is the message's kind
pub expected_status : (p : Purse) (m : Message) (k : ℕ) → expected p m ≡ true → m.kind ≡ k → p.status ≡ k
unfolding expected
expected_status p m k e h =
    ⊎_elim
    (λ (x : (eqb m.kind 1 && eqb p.status 1 || eqb m.kind 2 && eqb p.status 2) ≡ true).
    ⊎_elim (alike m.kind p.status 1 k h) (alike m.kind p.status 2 k h)
    (either (eqb m.kind 1 && eqb p.status 1) (eqb m.kind 2 && eqb p.status 2) x))
    (alike m.kind p.status 3 k h)
    (either (eqb m.kind 1 && eqb p.status 1 || eqb m.kind 2 && eqb p.status 2) (eqb m.kind 3 && eqb p.status 3)
    (and_r (same_details p.details m.details) _ e))

pub deliver_passed : (p : Purse) (own : Name) (m : Message) → deliver_number p own m ≡ 0 → (well_formed own p ≡ true) × (expected p m ≡ true)
unfolding deliver_number
deliver_passed p own m e =
    let w : (well_formed own p ≡ true) × (◌≡◌ {A = ℕ} (cond (not (expected p m)) 13 0) 0) = own_passed p own ((not (expected p m) ⇒ 13) ∷ []) e in
    (w.0, not-false (expected p m) (passed (not (expected p m)) 13 0 (omega arith) w.1).0)

pub deliver_pay : (p : Purse) (own : Name) (m : Message) → deliver_number p own m ≡ 0 → m.kind ≡ 1 → p.details.amount.0 ≤ p.balance.0
deliver_pay p own m e k =
    can_pay own p (deliver_passed p own m e).0 (expected_status p m 1 (deliver_passed p own m e).1 k)

pub deliver_get : (p : Purse) (own : Name) (m : Message) → deliver_number p own m ≡ 0 → m.kind ≡ 2 → p.balance.0 + p.details.amount.0 ≤ 5000000
deliver_get p own m e k =
    can_get own p (deliver_passed p own m e).0 (expected_status p m 2 (deliver_passed p own m e).1 k)

pub collect_some : (p : Purse) (own : Name) → collect_number p own ≡ 0 → 0 < p.logged
unfolding collect_number
collect_some p own e =
    let h : (p.logged ≡ 0 → ⊥) =
    eqb-false p.logged 0 (passed (eqb p.logged 0) 14 0 (omega arith) (own_passed p own ((eqb p.logged 0 ⇒ 14) ∷ []) e).1).0
    in omega arith

pub abort_passed : (p : Purse) (own : Name) → abort_number p own ≡ 0 → well_formed own p ≡ true
unfolding abort_number
abort_passed p own e = (own_passed p own [] e).0

-- a purse whose balance may rise: idle, with room
pub record Raises (p : Purse) (a : Amount) : Type 0 where
  pub idle : p.status ≡ 0
  pub room : p.balance.0 + a.0 ≤ ceiling p

pub raise_passed : (p : Purse) (a : Amount) → first (raise_tests p a) ≡ 0 → Raises p a
raise_passed p a e =
    let f : (not (eqb p.status 0) ≡ false) × (◌≡◌ {A = ℕ} _ 0) = passed (not (eqb p.status 0)) 8 _ (omega arith) e in
    record {
      idle = eqb-true _ _ (not-false _ f.0);
      room = ltb-false _ _ (passed (ltb (ceiling p) (p.balance.0 + a.0)) 12 0 (omega arith) f.1).0;
    }

pub load_passed : (p : Purse) (own : Name) (a : Amount) → load_number p own a ≡ 0 → Raises p a
unfolding load_number
load_passed p own a e =
    raise_passed p a (passed (not (legal a)) 7 _ (omega arith) (own_passed p own ((not (legal a) ⇒ 7) ∷ raise_tests p a) e).1).1
