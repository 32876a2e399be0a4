-- One line more.
-- Assumes nothing.
use native.Mathlib.Omega.{arith}
use Rattle.lines.specs.Text.{numbered}
use Rattle.lines.specs.Listing.{event_line}
use Rattle.lines.proofs.Puts.{nothing, line_more}
use Rattle.lines.proofs.lines.events.Goals as goal

pub loop-answer-init : goal.loop-answer-init
unfolding numbered
loop-answer-init c = record { number = omega arith; added = nothing _; upper_bound = omega (arith, c.new-lines.ensures.empty.0) }

pub loop-answer-preserved : goal.loop-answer-preserved
loop-answer-preserved c =
    let inv = c.loop-answer.invariant in
    record {
      number = omega arith;
      added =
          line_more event_line c.args.first c.args.answers.now c.loop-answer.answer-index _ (omega arith) inv.number inv.added c.put_event.ensures.added;
      upper_bound = omega arith;
    }
