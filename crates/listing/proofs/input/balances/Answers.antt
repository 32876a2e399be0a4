-- One balance more; after the last, all that there are.
-- Assumes nothing.
use Prim.Native.Nat.{◌+◌, ◌*◌}
use native.Mathlib.Omega.{arith}
use mathlib.Core.Path.{◌≡◌, refl, ◌∙◌}
use lib.ListN.{length-set}
use Rattle.bigendian.specs.Bytes.{number_at}
use Rattle.bigendian.proofs.Numbers.{number_there}
use Rattle.bigendian.proofs.Coded.{length-many}
use Rattle.bigendian.proofs.Gets.{filled_none, filled_more, filled_all}
use Rattle.listing.proofs.input.balances.Goals as goal

pub loop-i-init : goal.loop-i-init
loop-i-init c = record { filled = filled_none (number_at 4) 4 _ 1 32 0 refl; places = refl }

pub loop-i-preserved : goal.loop-i-preserved
loop-i-preserved c =
    let inv = c.loop-i.invariant in
    let l = c.args.l.now in
    let i = c.loop-i.i in
    let next : 1 + 4 * (i + 1) ≡ 1 + 4 * i + 4 = omega arith in
    let balance = c.number_at.ensures ∙ number_there l (1 + 4 * i) (omega arith) in
    record {
      filled = rw next (filled_more (number_at 4) 4 l 1 32 0 i (omega arith) inv.filled balance);
      places = simp length-set inv.places;
    }

pub returns : goal.returns
returns c =
    let args = c.args in
    rw (length-many (number_at 4) 4 args.count args.l.now 1)
    (filled_all (number_at 4) 4 args.l.now 1 32 0 args.count (omega arith) c.loop-i.invariant.filled)
