-- Name, balance, next number, status and log entries, one behind the other.
-- Assumes nothing.
use Rattle.lines.specs.Listing.{purse_line}
use Rattle.lines.proofs.Puts.{then}
use Rattle.lines.proofs.purses.put_purse.Goals as goal

pub returns-clause-added : goal.returns-clause-added
unfolding purse_line
returns-clause-added c =
    let balance = rw c.from.ensures at c.field-2.ensures.added in
    let next = rw c.from-2.ensures at c.field-3.ensures.added in
    let status = rw c.from-3.ensures at c.field-4.ensures.added in
    let logged = rw c.from-4.ensures at c.field-5.ensures.added in
    let name = then c.bytes.ensures c.field.ensures.added in
    then (then (then (then (then name balance) next) status) logged) c.end_line.ensures
