-- An opened bench is well formed.
-- Assumes nothing.
use Prim.Native.Nat.{ℕ, zero, suc, ◌+◌, ◌≤◌, ◌<◌}
use mathlib.Core.Path.{◌≡◌, refl}
use mathlib.Core.Bool.{true, ◌&&◌, not, cond}
use mathlib.Core.List.{List, [], ◌∷◌, map}
use lib.ListN.{length, get_or, length-map}
use lib.Dec.{leb}
use native.Mathlib.Omega.{arith}
use borrow.Author.Tests.{leb-true, not-false}
use Rattle.purse.specs.declared.Details.{Details}
use Rattle.purse.specs.Purse.{ceiling}
use Rattle.purse.specs.Lists.{all}
use Rattle.purse.proofs.Lists.{all_at}
use Rattle.purse.proofs.Bools.{and_l, and_r}
use Rattle.purse.proofs.Tests.{passed}
use Rattle.rules.specs.Bench.{called, opened_at, purse_at, running, kept}
use Rattle.rules.specs.Table.{table_ok}
use Rattle.rules.specs.Run.{opened, opening_number, run}
use Rattle.rules.specs.Steps.{step}
use Rattle.rules.proofs.Facts.{count_d, Table, table_is}
use Rattle.rules.proofs.Purses.{well_opened}
use Rattle.rules.proofs.Orders.{never_two}
use Rattle.rules.proofs.Kept.{keep_run}

-- what opening has passed
pub record Opens (bs : List ℕ) : Type 0 where
  pub some : 1 ≤ length bs
  pub few : length bs ≤ 32
  pub low : all (λ (b : ℕ). leb b (ceiling (opened_at b))) bs ≡ true

pub opens : (bs : List ℕ) → opening_number bs ≡ 0 → Opens bs
unfolding opening_number
opens bs e =
    let r : ℕ = cond (not (all (λ (b : ℕ). leb b (ceiling (opened_at b))) bs)) 21 0 in
    let n : (leb 1 (length bs) && leb (length bs) 32) ≡ true = not-false _ (passed (not (leb 1 (length bs) && leb (length bs) 32)) 20 r (omega arith) e).0 in
    let f : r ≡ 0 = (passed (not (leb 1 (length bs) && leb (length bs) 32)) 20 r (omega arith) e).1 in
    record {
      some = leb-true _ _ (and_l (leb 1 (length bs)) (leb (length bs) 32) n);
      few = leb-true _ _ (and_r (leb 1 (length bs)) (leb (length bs) 32) n);
      low = not-false _ (passed (not (all (λ (b : ℕ). leb b (ceiling (opened_at b))) bs)) 21 0 (omega arith) f).0;
    }

pub opened_at_lem : (bs : List ℕ) (p : ℕ) → p < length bs → purse_at (opened bs) p ≡ opened_at (get_or bs p 0)
opened_at_lem [] p l = absurd (omega arith)
opened_at_lem (x ∷ bs) zero l = refl
opened_at_lem (x ∷ bs) (suc p) l = opened_at_lem bs p (omega arith)

pub opened_table : (bs : List ℕ) → opening_number bs ≡ 0 → Table (opened bs)
opened_table bs e =
    let o : Opens bs = opens bs e in
    let n : length (map opened_at bs) ≡ length bs = length-map bs opened_at in
    record {
      some = omega (arith, o.some);
      few = omega (arith, o.few);
      few_messages = omega arith;
      few_entries = omega arith;
      well = λ (p : ℕ) (l : p < length (map opened_at bs)). rw (opened_at_lem bs p (omega arith)) (well_opened (called p) (get_or bs p 0) (leb-true _ _ (all_at (λ (b : ℕ). leb b (ceiling (opened_at b))) bs 0 p o.low (omega arith))));
      names =
          λ (p : ℕ) (l : p < length (map opened_at bs)) (d : Details) (h : 1 ≤ count_d d (running (purse_at (opened bs) p)) + count_d d (kept (purse_at (opened bs) p))).
          let z : 1 ≤ 0 + 0 = rw (opened_at_lem bs p (omega arith)) at h in absurd (omega arith);
      message = λ m h. absurd (omega arith);
      entry = λ n d h. absurd (omega arith);
      once = λ (p : ℕ) (l : p < length (map opened_at bs)) (d : Details). rw (opened_at_lem bs p (omega arith)) (omega arith);
      alone = λ m. omega arith;
      clear = λ m h. absurd (omega arith);
    }

pub opened_ok : (bs : List ℕ) → opening_number bs ≡ 0 → table_ok (opened bs) ≡ true
opened_ok bs e = table_is (opened bs) (opened_table bs e)

-- from an opened bench no run leads to a table that is not well formed
pub run_table : (bs : List ℕ) (ls : List (List ℕ)) → opening_number bs ≡ 0 → table_ok (run (opened bs) ls) ≡ true
run_table bs ls e = keep_run (opened bs) ls (opened_ok bs e)

-- so an opened bench never answers 2
pub opened_never_two : (bs : List ℕ) (ls : List (List ℕ)) (l : List ℕ) → opening_number bs ≡ 0 → (step (run (opened bs) ls) l).answer ≡ 2 → ⊥
opened_never_two bs ls l e = never_two (run (opened bs) ls) l (run_table bs ls e)
