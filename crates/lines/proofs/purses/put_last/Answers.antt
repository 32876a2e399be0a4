-- Messages, archive and claims, one behind the other.
-- Assumes nothing.
use Rattle.lines.specs.Listing.{last_line}
use Rattle.lines.proofs.Puts.{then}
use Rattle.lines.proofs.purses.put_last.Goals as goal

pub returns-clause-added : goal.returns-clause-added
unfolding last_line
returns-clause-added c =
    let messages = rw c.from.ensures at c.field.ensures.added in
    let archive = rw c.from-2.ensures at c.field-2.ensures.added in
    let claims = rw c.from-3.ensures at c.field-3.ensures.added in
    let first = then (then (then c.bytes.ensures messages) c.bytes-2.ensures) archive in
    then (then (then first c.bytes-3.ensures) claims) c.end_line.ensures
