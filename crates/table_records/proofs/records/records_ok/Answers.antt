-- Each turn of the loop asks a purse's record more, and with the unused ones behind them that is every record (`records_parts`). Assumes nothing.
use Prim.Native.Nat.{◌<◌, ◌-◌}
use mathlib.Core.Path.{◌≡◌, sym, ap}
use mathlib.Core.Bool.{true, ◌&&◌}
use lib.ListN.{length, take, drop, length-drop}
use lib.Seq.{take_all}
use native.Mathlib.Omega.{arith}
use Rattle.purse.specs.declared.Purse.{Purse}
use Rattle.purse.specs.Purse.{zero_purse, well_formed}
use Rattle.purse.proofs.Lists.{at_any, unmapped}
use Rattle.purse.proofs.Walks.{more_every}
use Rattle.rules.specs.Bench.{called}
use Rattle.table_records.specs.Records.{names_ok}
use Rattle.table_records.proofs.Record.{used_at, records_parts}
use borrow.Author.Rules.{rules}
use Rattle.table_records.proofs.records.records_ok.Goals as goal
use Rattle.table_records.proofs.records.records_ok.Goals.{Start}

long : (start : Start) → length start.args.table.now ≡ 32
long start = search (rules, unmapped)

pub loop-i-preserved : goal.loop-i-preserved
loop-i-preserved c =
    let t = c.args.table.now in
    let i = c.loop-i.i in
    let inside : i < length t = omega (arith, long (goal.at.loop-i-preserved c).Start) in (
      c.loop-i.invariant.0,
      more_every (used_at c.args.purses t) i true c.loop-i.invariant.1
          (rw (c.well_formed-in-loop-i.ensures, c.names_ok.ensures) (ap (λ (p : Purse). well_formed (called i) p && names_ok c.args.purses p) (at_any t i _ zero_purse inside))),
    )

pub returns : goal.returns
returns c =
    let start = (goal.at.returns c).Start in
    let t = c.args.table.now in
    let many = c.min-many.result in
    let full : c.loop-i.i ≡ many = omega arith in
    let rest : take (32 - many) (drop many t) ≡ drop many t = take_all (32 - many) (drop many t) (omega (arith, length-drop many t, long start)) in
    rw (c.loop-i.invariant.1, full, c.are_zero.ensures, rest) (sym (records_parts c.args.purses t many (long start) (omega (arith, c.min-many.ensures))))
