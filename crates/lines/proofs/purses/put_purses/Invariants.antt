-- The lines of the purses so far are added, at most 111 bytes each.
-- Assumes nothing.
use Prim.Native.Nat.{◌≤◌, ◌+◌, ◌*◌}
use lib.ListN.{take}
use Rattle.lines.specs.Added.{Added}
use Rattle.lines.specs.Text.{numbered}
use Rattle.lines.specs.Listing.{purse_line}
use Rattle.lines.proofs.purses.put_purses.Given as goal

abbrev pub invariant-loop-name : goal.invariant-loop-name
invariant-loop-name l =
    record {
      added : Added l.initial.out (numbered purse_line 0 (take l.name l.purses)) l.out;
      upper_bound : l.out.length ≤ l.initial.out.length + 111 * l.name;
    }
