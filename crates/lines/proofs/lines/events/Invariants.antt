-- The lines of the answers so far are added, at most 42 bytes each, and the next event's number is as many more than the first.
-- Assumes nothing.
use Prim.Native.Nat.{◌≤◌, ◌+◌, ◌*◌}
use mathlib.Core.Path.{◌≡◌}
use lib.ListN.{take}
use Rattle.lines.specs.Added.{Added}
use Rattle.lines.specs.Listing.{event_lines}
use Rattle.lines.proofs.lines.events.Given as goal

abbrev pub invariant-loop-answer : goal.invariant-loop-answer
invariant-loop-answer l =
    record {
      number : l.event ≡ l.first + l.answer-index;
      added : Added l.initial.lines (event_lines l.first (take l.answer-index l.answers)) l.lines;
      upper_bound : l.lines.length ≤ 42 * l.answer-index;
    }
