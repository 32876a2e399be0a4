-- The lines are those of the answers that the run gave.
-- Assumes nothing.
use native.Mathlib.Omega.{arith}
use Prim.Native.Nat.{◌≤◌}
use mathlib.Core.Path.{◌≡◌, sym, ap, ◌∙◌}
use lib.ListN.{length, take}
use lib.Seq.{take_at}
use Rattle.rules.specs.Laid.{held_answers}
use Rattle.listing.specs.Piece.{events_in}
use Rattle.listing.proofs.Cuts.{length-answers, listed}
use Rattle.listing.proofs.pieces.piece.Goals as goal

pub returns-clause-value : goal.returns-clause-value
returns-clause-value c =
    let all = c.answer_all-ran in
    let a = c.args in
    let h = a.held in
    let l = a.input.now in
    let bs = held_answers h (events_in l) in
    let n : length bs ≡ all.result.taken = length-answers h (events_in l) ∙ sym all.ensures.taken_value.0 in
    let said : take all.result.taken all.new.answers ≡ bs =
    ap (take all.result.taken) all.ensures.taken_value.2 ∙ take_at bs _ all.result.taken n in
    let few : length (take all.result.taken all.new.answers) ≤ 512 = rw said (omega (arith, n, all.ensures.taken_bound)) in
    listed h a.first l a.out.now c.if-input-gt6144.false c.if-out-lt21504.false c.if-first-gt1000000000000000000.false said few c.events-length.ensures.filled all.ensures.taken_value.0 all.ensures.taken_value.1
