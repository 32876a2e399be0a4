-- `trips::read_then_written` meets its contract. An image that reads is the image of the bench that it gives.
-- Assumes nothing.
use mathlib.Core.Path.{refl}
use native.Mathlib.Omega.{arith}
use Rattle.trips.proofs.Back.{again, not_again}
use Rattle.trips.proofs.read_then_written.Goals as goal

pub returns-then-a-eq0 : goal.returns-then-a-eq0
returns-then-a-eq0 c =
    let args = c.args in
    let wrote = c.write.ensures in
    again args.other args.bytes.now args.out.now (λ i. omega (arith, c.type_inv.bytes i)) c.read-a.ensures c.if-a-eq0.true wrote.0 wrote.1

pub returns-else-a-eq0 : goal.returns-else-a-eq0
returns-else-a-eq0 c =
    let args = c.args in
    not_again args.other args.bytes.now args.out.now c.read-a.ensures refl c.if-a-eq0.false
