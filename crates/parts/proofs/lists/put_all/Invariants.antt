-- `parts::lists::put_all` meets its contract. The invariant is `Wrote`, the law of every loop that writes.
-- Assumes nothing.
use Rattle.bigendian.proofs.Puts.{Wrote}
use Rattle.parts.proofs.lists.put_all.Given as goal

abbrev pub invariant-loop-i : goal.invariant-loop-i
invariant-loop-i g l = let part = g.P.Part in Wrote part.bytes part.WIDTH l.initial.out l.at l.places l.out l.i
