-- The event's number, its answer and the line end, one behind the other.
-- Assumes nothing.
use Rattle.lines.specs.Listing.{event_line}
use Rattle.lines.proofs.Puts.{then}
use Rattle.lines.proofs.lines.put_event.Goals as goal

pub returns-clause-added : goal.returns-clause-added
unfolding event_line
returns-clause-added c =
    let answer = rw c.from.ensures at c.field.ensures.added in
    then (then c.number.ensures.added answer) c.end_line.ensures
