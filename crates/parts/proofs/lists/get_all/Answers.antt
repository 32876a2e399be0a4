-- `parts::lists::get_all` meets its contract. The first places hold what was read, and the others what they held.
-- Assumes nothing.
use native.Mathlib.Omega.{arith}
use mathlib.Core.Path.{◌≡◌, refl, sym, ◌∙◌}
use Rattle.bigendian.specs.Bytes.{many}
use Rattle.bigendian.proofs.Numbers.{read_there}
use Rattle.bigendian.proofs.Puts.{turn_room}
use Rattle.bigendian.proofs.Gets.{got_more, first_got, first_left, first_missing}
use Rattle.parts.proofs.lists.get_all.Goals as goal
use Rattle.parts.proofs.lists.get_all.Goals.{then-places-n-via-then-places-n, then-places-n-via-else-places-n+then-saturating_sub-WIDTH}

pub returns-then-places-n : goal.returns-then-places-n
returns-then-places-n g c =
    elim c.then-places-n.branch [
      | then-places-n-via-then-places-n w ↦ sym (first_left _ _ _ _ _ _ (omega (arith, c.from-n.ensures, w.if-places-n.true)))
      | then-places-n-via-else-places-n+then-saturating_sub-WIDTH w ↦
          let room = rw (w.WIDTH.ensures, w.saturating_sub.ensures, c.from-n.ensures) at w.if-saturating_sub-WIDTH.true in
          sym (first_missing _ _ _ _ _ _ (omega (arith, w.if-places-n.false)) room)
    ]

pub loop-i-init : goal.loop-i-init
unfolding many
loop-i-init g c = refl

pub loop-i-preserved : goal.loop-i-preserved
loop-i-preserved g c =
    let part = g.P.Part in
    let args = c.args in
    let room = rw (c.WIDTH.ensures, c.saturating_sub.ensures) at c.if-saturating_sub-WIDTH.false in
    let turn = turn_room part.WIDTH c.loop-i-test.true in
    let got = rw c.WIDTH-in-loop-i.ensures at c.get.ensures in
    got_more part.value_at part.WIDTH args.s.now args.at args.places.now c.loop-i.i (omega arith) c.loop-i.invariant (got ∙ read_there _ _ _ _ _ (omega (arith, g.met.P.Part.some)))

pub returns : goal.returns
returns g c =
    let args = c.args in
    let room = rw (c.WIDTH.ensures, c.saturating_sub.ensures, c.from-n.ensures) at c.if-saturating_sub-WIDTH.false in
    let done : c.loop-i.i ≡ args.count = omega arith in
    rw done at c.loop-i.invariant ∙ sym (first_got _ _ _ _ _ args.count (omega arith) room)
