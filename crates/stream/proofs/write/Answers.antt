-- One part more, or none.
-- Assumes nothing.
use native.Mathlib.Omega.{arith}
use mathlib.Core.Path.{subst}
use Rattle.std.specs.Io.KnownBytes.{Appends}
use Rattle.std.proofs.KnownBytes.{Appends-trans, Appends-kept}
use Rattle.stream.proofs.Moves.{more_went}
use Rattle.stream.proofs.write.Goals as goal
use Rattle.stream.proofs.write.Goals.{in-Ok, in-Err+in_ok-map_err-in-Err}

pub loop-preserved : goal.loop-preserved
loop-preserved g c =
    let inv = c.loop.invariant in
    elim c.match-write.branch [
      | in-Ok w ↦
          rw w.count-is
          record {
            within = omega (arith, w.in-Ok.ensures.bound);
            appended = subst (Appends _ _) (more_went c.args.bytes.now c.loop.count w.in-Ok.went) (Appends-trans _ _ _ _ _ inv.appended w.in-Ok.ensures.bytes);
          }
      | in-Err+in_ok-map_err-in-Err w ↦ rw w.count-is record { within = inv.within; appended = Appends-kept _ _ _ _ inv.appended w.in-Err.ensures.bytes }
    ]
