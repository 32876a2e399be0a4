-- `bench::runs::each` meets its contract: the loop's invariant is `Going`, of what the bench holds put together of its parts: the run so far,
-- and the pieces that are left. A turn is one event at the parts (the laws of Parts), by the six ways on which it can go.
-- Assumes nothing.
use Rattle.bench.proofs.Filling.{Going}
use Rattle.bench.proofs.Parts.{bench}
use Rattle.bench.proofs.runs.each.Given as goal

abbrev pub invariant-loop-i : goal.invariant-loop-i
invariant-loop-i l = Going (bench l.initial.table l.initial.purses l.initial.ether l.initial.archive) (bench l.table l.purses l.ether l.archive) l.input l.initial.answers l.answers l.n l.i
