-- The purse lines and the last line, with the figure that the bench's contract gives; a count above 32 takes the whole table, as the
-- definition does.
-- Assumes nothing.
use native.Mathlib.Omega.{arith}
use mathlib.Core.Path.{◌≡◌, ap}
use mathlib.Core.List.{List}
use lib.ListN.{length, take}
use borrow.Author.Rules.{rules}
use borrow.Author.Tests.{le-leb}
use Rattle.purse.specs.declared.Purse.{Purse}
use Rattle.purse.proofs.Lists.{take_least}
use Rattle.desk.specs.declared.Figure.{Figure}
use Rattle.lines.specs.Text.{numbered}
use Rattle.lines.specs.Listing.{purse_line, last_line, foot_with, foot_of}
use Rattle.lines.proofs.Puts.{then, same_bytes, filled}
use Rattle.lines.proofs.purses.foot.Goals as goal

pub returns-clause-filled : goal.returns-clause-filled
unfolding foot_of foot_with
returns-clause-filled c =
    let held = c.args.held in
    let long : length held.table ≡ 32 = search rules in
    let all : take c.min-count.result held.table ≡ take held.desk.purses held.table =
    rw (c.min-count.ensures, c.from.ensures) (take_least held.desk.purses 32 held.table (omega arith)) in
    let purses = same_bytes (ap (λ (l : List Purse). numbered purse_line 0 l) all) c.put_purses.ensures.added in
    let ether = held.desk.ether in
    let archive = held.desk.archive in
    let claims = ap (λ (f : Figure). last_line ether.count archive.count f.claims) c.claims-figure.ensures in
    filled (le-leb _ _ c.if-out-lt4096.false) c.new-foot.ensures.empty (then purses (same_bytes claims c.put_last.ensures.added)) (search rules)
