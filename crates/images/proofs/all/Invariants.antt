-- The last image read lies within the input. A turn takes at least the two bytes of a length.
use Rattle.std.proofs.Common.{◌-◌, ◌≤◌, length}
use Rattle.images.proofs.all.Given as goal

abbrev pub invariant-loop-image : goal.invariant-loop-image
invariant-loop-image g l = record { in_order : l.last.start ≤ l.last.end; within : l.last.end ≤ length l.input }

abbrev pub decreases-loop-image : goal.decreases-loop-image
decreases-loop-image g l = length l.input - l.last.end
