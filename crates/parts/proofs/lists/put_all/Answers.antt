-- `parts::lists::put_all` meets its contract. The invariant is `Wrote`, the law of every loop that writes.
-- Assumes nothing.
use native.Mathlib.Omega.{arith}
use Prim.Native.Nat.{◌<◌}
use mathlib.Core.Path.{◌≡◌, sym, ◌∙◌}
use lib.ListN.{length-take, get_or}
use Rattle.std.proofs.Common.{get_or-take}
use Rattle.bigendian.proofs.Puts.{turn_room, wrote_none, wrote_more, first-put, first_above, first_nowhere}
use Rattle.parts.proofs.lists.put_all.Goals as goal
use Rattle.parts.proofs.lists.put_all.Goals.{then-places-n-via-then-places-n, then-places-n-via-else-places-n+then-saturating_sub-WIDTH}

pub returns-then-places-n : goal.returns-then-places-n
returns-then-places-n g c =
    elim c.then-places-n.branch [
      | then-places-n-via-then-places-n w ↦ sym (first_above _ _ _ _ _ _ _ (omega (arith, c.from-n.ensures, w.if-places-n.true)))
      | then-places-n-via-else-places-n+then-saturating_sub-WIDTH w ↦
          let room = rw (w.WIDTH.ensures, w.saturating_sub.ensures, c.from-n.ensures) at w.if-saturating_sub-WIDTH.true in
          sym (first_nowhere _ _ _ _ _ _ _ (omega (arith, w.if-places-n.false)) room)
    ]

pub loop-i-init : goal.loop-i-init
loop-i-init g c = wrote_none _ _ _ _ _

pub loop-i-preserved : goal.loop-i-preserved
loop-i-preserved g c =
    let part = g.P.Part in
    let args = c.args in
    let i = c.loop-i.i in
    let x = c.record-item.result in
    let places = args.places.now in
    let within : i < c.from-n.result = omega (arith, simp length-take at c.loop-i-test.true) in
    let room = rw (c.WIDTH.ensures, c.saturating_sub.ensures) at c.if-saturating_sub-WIDTH.false in
    let turn = turn_room part.WIDTH within in
    let read : x ≡ get_or places i x = c.record-item.is ∙ get_or-take c.from-n.result places i x within in
    let put = rw c.WIDTH-in-loop-i.ensures at c.put.ensures.put in
    wrote_more part.bytes part.WIDTH args.out.now args.at places i x (omega arith) read c.loop-i.invariant c.put.ensures.wide put (omega (arith, g.met.P.Part.some))

pub returns : goal.returns
returns g c =
    let args = c.args in
    let room = rw (c.WIDTH.ensures, c.saturating_sub.ensures, c.from-n.ensures) at c.if-saturating_sub-WIDTH.false in
    let done : c.loop-i.i ≡ args.count = omega (arith, length-take c.from-n.result args.places.now) in
    rw done at c.loop-i.invariant.wrote ∙ sym (first-put _ _ _ _ _ _ _ (omega arith) room)
