-- Text, number and line end, one behind the other, where the buffer has room for the longest.
-- Assumes nothing.
use borrow.Author.Rules.{rules}
use borrow.Author.Tests.{le-leb}
use Rattle.lines.specs.Listing.{opening_line}
use Rattle.lines.proofs.Puts.{then, filled}
use Rattle.lines.proofs.lines.refused.Goals as goal

pub returns-clause-filled : goal.returns-clause-filled
unfolding opening_line
returns-clause-filled c =
    let answer = rw c.from.ensures at c.field.ensures.added in
    filled (le-leb _ _ c.if-out-lt29.false) c.new-line.ensures.empty (then (then c.bytes.ensures answer) c.end_line.ensures) (search rules)
