-- What the rules about a purse's status come to, status by status: the code goes by `match`. Each follows by computing the tests of that
-- status, the others being false. Assumes nothing.
use Prim.Native.Nat.{ℕ, ◌+◌, ◌<◌, ◌≤◌}
use mathlib.Core.Path.{◌≡◌, ◌∙◌, sym}
use mathlib.Core.Bool.{Bool, true, false, ◌&&◌, ◌||◌, and-false, or-false}
use mathlib.Core.Logic.{⊎_elim}
use lib.Dec.{ltb, leb}
use native.Mathlib.Omega.{arith}
use borrow.Author.Tests.{ne_eqb, ltb-true, ltb-false, le-leb, lt-leb}
use Rattle.purse.specs.declared.Name.{Name}
use Rattle.purse.specs.declared.Purse.{Purse}
use Rattle.purse.specs.Details.{zero_details, same_details, named, as_payer, as_payee}
use Rattle.purse.specs.Purse.{ceiling, idle_ok, busy_ok}
use Rattle.purse.proofs.Bools.{which}

-- at most 7 is below 8
seven : (n : ℕ) → leb n 7 ≡ ltb n 8
seven n =
    ⊎_elim
    (λ (a : ltb n 8 ≡ true). let h : n < 8 = ltb-true n 8 a in le-leb n 7 (omega arith) ∙ sym a)
    (λ (a : ltb n 8 ≡ false). let h : 8 ≤ n = ltb-false n 8 a in lt-leb n 7 (omega arith) ∙ sym a)
    (which (ltb n 8))

-- the rules of a purse by its status
module _ (own : Name) (p : Purse) where
  abbrev pub ruled : Bool
  ruled = idle_ok p || busy_ok own p

  -- named details, and a log place left
  abbrev pub runs : Bool
  runs = named p.details && ltb p.logged 8

  pub at_idle : p.status ≡ 0 → ruled ≡ same_details p.details zero_details
  unfolding idle_ok busy_ok
  at_idle e = simp (e, seven, and-false, or-false)

  pub at_epr : p.status ≡ 1 → ruled ≡ (runs && (leb p.details.amount.0 p.balance.0 && as_payer own p.next p.details))
  unfolding idle_ok busy_ok
  at_epr e = simp (e, seven, and-false, or-false)

  pub at_epv : p.status ≡ 2 → ruled ≡ (runs && (leb (p.balance.0 + p.details.amount.0) (ceiling p) && as_payee own p.next p.details))
  unfolding idle_ok busy_ok
  at_epv e = simp (e, seven, and-false, or-false)

  pub at_epa : p.status ≡ 3 → ruled ≡ (runs && as_payer own p.next p.details)
  unfolding idle_ok busy_ok
  at_epa e = simp (e, seven, and-false, or-false)

  pub at_none : (p.status ≡ 0 → ⊥) → (p.status ≡ 1 → ⊥) → (p.status ≡ 2 → ⊥) → (p.status ≡ 3 → ⊥) → ruled ≡ false
  unfolding idle_ok busy_ok
  at_none a b c d = simp (ne_eqb _ 0 a, ne_eqb _ 1 b, ne_eqb _ 2 c, ne_eqb _ 3 d, and-false, or-false)
