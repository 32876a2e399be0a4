-- Whole pieces are read and listed.
use Rattle.std.proofs.Common.{◌≡◌, ℕ, ◌*◌, List, length}
use Rattle.stream.specs.Run.{Listed}
use Rattle.stream.proofs.events.Given as goal

abbrev pub invariant-loop-whole : goal.invariant-loop-whole
invariant-loop-whole g l =
    (bytes : List ℕ)
    × Listed l.fn.opened bytes (g.R.Read.remaining l.initial.from) (g.R.Read.remaining l.from) (g.W.Write.contents l.initial.to) (g.W.Write.contents l.to) l.held
    × (length bytes ≡ 6144 * l.whole)
