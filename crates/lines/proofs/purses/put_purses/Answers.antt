-- One line more.
-- Assumes nothing.
use native.Mathlib.Omega.{arith}
use Rattle.lines.specs.Text.{numbered}
use Rattle.lines.specs.Listing.{purse_line}
use Rattle.lines.proofs.Puts.{nothing, line_more}
use Rattle.lines.proofs.purses.put_purses.Goals as goal

pub loop-name-init : goal.loop-name-init
unfolding numbered
loop-name-init c = record { added = nothing _; upper_bound = omega arith }

pub loop-name-preserved : goal.loop-name-preserved
loop-name-preserved c =
    let inv = c.loop-name.invariant in
    record {
      added = line_more purse_line 0 c.args.purses.now c.loop-name.name _ (omega arith) (omega arith) inv.added c.put_purse.ensures.added;
      upper_bound = omega arith;
    }
