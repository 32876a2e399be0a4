-- The first byte, and those behind it.
-- Assumes nothing.
use mathlib.Core.Path.{◌∙◌}
use borrow.Author.Rules.{rules}
use Rattle.stream.proofs.Opened.{opening_put}
use Rattle.stream.proofs.read_opening.Goals as goal

pub returns-clause-read : goal.returns-clause-read
returns-clause-read g c =
    let first = c.in_ok-read.ensures in
    let rest = c.in_ok-read-2.ensures in
    opening_put _ _ _ c.read.new.bytes _ c.read-2.new.bytes c.in_ok-read.field-0 c.in_ok-read-2.field-0 _ first.consumed rest.consumed (search rules) c.if-branch-eq0.false
    rest.count_in_bounds ((search rules) ∙ c.balance_bytes-end.ensures.value) rest.end
