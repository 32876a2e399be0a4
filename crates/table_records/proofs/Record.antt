-- The tests of one record, in the parts in which the code asks them: the running details, then the log; and those of all the records: the
-- purses' ones, then the unused.
-- Assumes nothing.
use Prim.Native.Nat.{ℕ, ◌≤◌, ◌<◌, min}
use mathlib.Core.Path.{◌≡◌, sym, ◌∙◌, ap}
use mathlib.Core.Bool.{Bool, true, false, ◌&&◌, ◌||◌, not, and-true}
use mathlib.Core.Logic.{⊎_elim}
use mathlib.Core.List.{List}
use lib.ListN.{length, drop, get_or}
use lib.Dec.{eqb}
use native.Mathlib.Omega.{arith}
use borrow.Author.Tests.{lt-ltb, le-ltb, eq-eqb}
use Rattle.purse.specs.declared.Details.{Details}
use Rattle.purse.specs.declared.Purse.{Purse}
use Rattle.purse.specs.Lists.{every, all, among}
use Rattle.purse.specs.Details.{zero_details, same_details}
use Rattle.purse.specs.Purse.{zero_purse, well_formed}
use Rattle.purse.proofs.Bools.{which}
use Rattle.form.proofs.Parts.{every_split}
use Rattle.rules.specs.Bench.{called, kept}
use Rattle.rules.specs.Laid.{is_zero_purse}
use Rattle.table_records.specs.Records.{within, holds, names_ok, record_ok, records_ok}

pub names_parts : (n : ℕ) (p : Purse) → names_ok n p ≡ ((eqb p.status 0 || within n p.details) && all (within n) (kept p))
unfolding names_ok
names_parts n p =
    ⊎_elim (λ (e : eqb p.status 0 ≡ true). rw e) (λ (e : eqb p.status 0 ≡ false). rw e) (which (eqb p.status 0))

pub holds_parts : (p : Purse) (d : Details) → holds p d ≡ ((not (eqb p.status 0) && same_details d p.details) || among same_details d (kept p))
unfolding holds
holds_parts p d =
    ⊎_elim (λ (e : eqb p.status 0 ≡ true). rw e) (λ (e : eqb p.status 0 ≡ false). rw e) (which (eqb p.status 0))

pub zero_parts : (p : Purse) → length p.log ≡ 8 → is_zero_purse p ≡ (eqb p.balance.0 0 && eqb p.next.0 0 && eqb p.status 0 && eqb p.logged 0 && same_details p.details zero_details && all (λ (d : Details). same_details d zero_details) p.log)
unfolding is_zero_purse
zero_parts p e =
    rw (eq-eqb (length p.log) 8 e, and-true (eqb p.balance.0 0 && eqb p.next.0 0 && eqb p.status 0 && eqb p.logged 0 && same_details p.details zero_details))

-- a record's test, by its place
module _ (n i : ℕ) (p : Purse) where
  pub is_used : i < n → record_ok n i p ≡ (well_formed (called i) p && names_ok n p)
  unfolding record_ok
  is_used g = rw (lt-ltb i n g)

  pub is_unused : n ≤ i → record_ok n i p ≡ is_zero_purse p
  unfolding record_ok
  is_unused g = rw (le-ltb i n g)

module _ (n : ℕ) (l : List Purse) where
  -- the record of purse i, without the test that there is such a purse
  abbrev pub used_at : ℕ → Bool
  used_at i = well_formed (called i) (get_or l i zero_purse) && names_ok n (get_or l i zero_purse)

  pub records_parts : (u : ℕ) → length l ≡ 32 → u ≡ min n 32 → records_ok n l ≡ (every u used_at && all is_zero_purse (drop u l))
  unfolding records_ok
  records_parts u long e =
      let f : ℕ → Bool = λ (i : ℕ). record_ok n i (get_or l i zero_purse) in
      ap (λ (m : ℕ). every m f) (sym long)
      ∙ every_split f used_at is_zero_purse l zero_purse u (omega arith)
      (λ (i : ℕ) (k : i < u). is_used n i (get_or l i zero_purse) (omega arith))
      (λ (i : ℕ) (k : u ≤ i) (q : i < length l). is_unused n i (get_or l i zero_purse) (omega arith))
