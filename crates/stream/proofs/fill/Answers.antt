-- One part more, or none.
-- Assumes nothing.
use borrow.Author.Rules.{rules}
use mathlib.Core.Path.{subst}
use Rattle.std.specs.Io.KnownBytes.{Consumes}
use Rattle.std.proofs.Common.{sym}
use Rattle.std.proofs.Common.{le_refl}
use Rattle.std.proofs.KnownBytes.{Consumes-trans, Consumes-kept}
use Rattle.std.proofs.lemmas.Slice.{take-put_mid_below}
use Rattle.stream.proofs.Moves.{more_came}
use Rattle.stream.proofs.fill.Goals as goal
use Rattle.stream.proofs.fill.Goals.{in-Ok, in-Err+in_ok-put_off-in-Err}

pub loop-preserved : goal.loop-preserved
loop-preserved g c =
    let inv = c.loop.invariant in
    elim c.match-read.branch [
      | in-Ok w ↦
          rw w.count-is
          record {
            within = search rules;
            consumed =
                subst (Consumes _ _) (more_came c.loop.bytes c.read.new.buf c.loop.count _ w.in-Ok.came inv.within w.in-Ok.ensures.bound.0)
                (Consumes-trans _ _ _ _ _ inv.consumed w.in-Ok.ensures.bytes.0);
          }
      | in-Err+in_ok-put_off-in-Err w ↦
          rw w.count-is
          record {
            within = search rules;
            consumed =
                subst (Consumes _ _) (sym (take-put_mid_below _ _ _ _ _ (le_refl _) inv.within)) (Consumes-kept _ _ _ _ inv.consumed w.in-Err.ensures.bytes);
          }
    ]
