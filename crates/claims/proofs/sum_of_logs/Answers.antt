-- Each turn of the loop adds one log more, each of eight entries at most. Assumes nothing.
use Prim.Native.Nat.{ℕ, ◌+◌, ◌≤◌, ◌<◌}
use mathlib.Core.Path.{◌≡◌, ap, ◌∙◌}
use mathlib.Core.Bool.{true}
use mathlib.Core.List.{List, [], map}
use lib.ListN.{length, get_or, length-take}
use lib.Dec.{leb, eqb}
use native.Mathlib.Numerals.{add-one}
use native.Mathlib.Omega.{arith}
use borrow.Author.Tests.{eqb-true, leb-true}
use Rattle.purse.specs.declared.Purse.{Purse}
use Rattle.purse.specs.Lists.{total}
use Rattle.purse.specs.Details.{zero_details}
use Rattle.purse.specs.Purse.{zero_purse}
use Rattle.purse.proofs.Bools.{and_l, and_r}
use Rattle.purse.proofs.Count.{total-append}
use Rattle.purse.proofs.Lists.{every_at, at_any}
use Rattle.desk.specs.declared.Entry.{Entry}
use Rattle.rules.specs.Bench.{kept}
use Rattle.claims.specs.Claims.{entry_by, log_entries, entry_claim, log_fits}
use Rattle.claims.proofs.sum_of_logs.Goals as goal
use Rattle.claims.proofs.sum_of_logs.Goals.{Start}

-- what an array has past its end
abbrev none : Purse
none = record { balance = record { 0 = 0 }; next = record { 0 = 0 }; status = 0; details = zero_details; log = []; logged = 0 }

-- the record in place own: a log of eight places, of which no more are used
record Fits (table : List Purse) (own : ℕ) : Type 0 where
  inside : own < length table
  eight : length (get_or table own none).log ≡ 8
  few : (get_or table own none).logged ≤ 8

fits-at : (start : Start) (own : ℕ) → own < start.args.purses → Fits start.args.books.table.now own
fits-at start own below =
    let l = start.args.books.table.now in
    let less : own < length l = omega (arith, start.args.books.long, start.requires.0, below) in
    let p : Purse = get_or l own none in
    let ok : log_fits p ≡ true =
    ap log_fits (at_any l own none zero_purse less) ∙ every_at (λ (p : ℕ). log_fits (get_or l p zero_purse)) start.args.purses own start.requires.1 below in
    record {
      inside = less;
      eight = eqb-true _ _ (and_l (eqb (length p.log) 8) (leb p.logged 8) ok);
      few = leb-true _ _ (and_r (eqb (length p.log) 8) (leb p.logged 8) ok);
    }

pub shared_ref_as_front-sum_of_log : goal.shared_ref_as_front-sum_of_log
shared_ref_as_front-sum_of_log c =
    let fits = fits-at (goal.at.shared_ref_as_front-sum_of_log c).Start c.loop-own.own c.loop-own-test.true in
    omega (arith, fits.eight, fits.few)

pub sum_of_log-sum-requires : goal.sum_of_log-sum-requires
sum_of_log-sum-requires c =
    let own = c.loop-own.own in
    let p : Purse = get_or c.args.books.table.now own none in
    let fits = fits-at (goal.at.sum_of_log-sum-requires c).Start own c.loop-own-test.true in
    omega (arith, fits.eight, length-take p.logged p.log)

pub loop-own-preserved : goal.loop-own-preserved
loop-own-preserved c =
    let l = c.args.books.table.now in
    let w : Entry → ℕ = entry_claim l c.args.books.archive.now in
    let own = c.loop-own.own in
    let fits = fits-at (goal.at.loop-own-preserved c).Start own c.loop-own-test.true in
    let here : c.sum_of_log-sum.result ≡ total w (map (entry_by own) (kept (get_or l own zero_purse))) =
    c.sum_of_log-sum.ensures.value ∙ ap (λ (p : Purse). total w (map (entry_by own) (kept p))) (at_any l own none zero_purse fits.inside) in
    let more : total w (log_entries (own + 1) l) ≡ total w (log_entries own l) + total w (map (entry_by own) (kept (get_or l own zero_purse))) =
    rw (add-one own) (total-append w (log_entries own l) (map (entry_by own) (kept (get_or l own zero_purse)))) in
    (omega (arith, more, here, c.loop-own.invariant.0), omega (arith, c.sum_of_log-sum.ensures.most, c.loop-own.invariant.1))
