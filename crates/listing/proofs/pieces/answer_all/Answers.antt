-- `listing::pieces::answer_all` meets its contract. The run takes every whole event; where bytes are left, one event more is taken.
-- Assumes nothing.
use borrow.Author.Rules.{part_to_end}
use Rattle.rules.specs.Laid.{held_step}
use Rattle.bench.specs.Runs.{pieces}
use Rattle.listing.specs.Piece.{events_in}
use Prim.Native.Nat.{ℕ, ◌*◌, ◌/◌}
use native.Mathlib.Omega.{arith}
use mathlib.Core.Path.{◌≡◌, ap, ◌∙◌}
use mathlib.Core.List.{[], ◌∷◌, ◌++◌}
use lib.ListN.{length, drop}
use Rattle.listing.proofs.Cuts.{taken-all, few_cut, all_whole, last_cut, Ranned, ran_more, ran_all, ran_of}
use Rattle.listing.proofs.pieces.answer_all.Goals as goal
use Rattle.listing.proofs.pieces.answer_all.Goals.{After-run-ran}

-- the run took every whole event
all-taken : (c : After-run-ran) → c.run-ran.result.taken ≡ length c.args.input.now / 12
all-taken c = c.run-ran.ensures.0 ∙ taken-all _ _ c.requires.0 c.requires.1

all-ran : (c : After-run-ran)
    → Ranned c.args.held (pieces (length c.args.input.now / 12) c.args.input.now) c.args.answers.now c.run-ran.result.taken c.run-ran.result.held c.run-ran.new.answers
all-ran c =
    ran_all c.args.held c.args.input.now c.args.answers.now c.requires.0 c.requires.1 c.run-ran.ensures.0 c.run-ran.ensures.1 c.run-ran.ensures.2

pub overflow_mul-at : goal.overflow_mul-at
overflow_mul-at c = omega (arith, all-taken (goal.at.overflow_mul-at c).After-run-ran)

pub returns-then-at-input : goal.returns-then-at-input
returns-then-at-input c =
    let args = c.args in
    let l = args.input.now in
    let whole : 12 * (length l / 12) ≡ length l = omega (arith, all-taken (goal.at.returns-then-at-input c).After-run-ran, c.if-at-input.true) in
    record {
      taken_value = ran_of args.held l args.answers.now (pieces (length l / 12) l) (events_in l) (all_whole l whole) (all-ran (goal.at.returns-then-at-input c).After-run-ran);
      taken_bound = omega (arith, all-taken (goal.at.returns-then-at-input c).After-run-ran, c.requires.0);
    }

pub slice_bounds-event-count : goal.slice_bounds-event-count
slice_bounds-event-count c = omega (arith, all-taken (goal.at.slice_bounds-event-count c).After-run-ran)

pub slice_bounds-event-start : goal.slice_bounds-event-start
slice_bounds-event-start c = omega (arith, all-taken (goal.at.slice_bounds-event-start c).After-run-ran)

pub bounds-answers-whole : goal.bounds-answers-whole
bounds-answers-whole c = omega (arith, all-taken (goal.at.bounds-answers-whole c).After-run-ran, c.run-ran.auto.answers, c.requires.0, c.requires.1)

pub overflow_add-result : goal.overflow_add-result
overflow_add-result c = omega (arith, all-taken (goal.at.overflow_add-result c).After-run-ran, c.requires.0)

pub returns : goal.returns
returns c =
    let args = c.args in
    let l = args.input.now in
    let cut : 12 * (length l / 12) ≡ length l → ⊥ = λ e. c.if-at-input.false (omega (arith, all-taken (goal.at.returns c).After-run-ran, e)) in
    let rest = drop (12 * (length l / 12)) l in
    let few = few_cut l c.requires.0 cut in
    record {
      taken_value = ran_of args.held l args.answers.now (pieces (length l / 12) l ++ (rest ∷ [])) (events_in l) (last_cut l cut)
          (ran_more args.held (pieces (length l / 12) l) rest args.answers.now c.event-last.result (all-ran (goal.at.returns c).After-run-ran) (omega (arith, all-taken (goal.at.returns c).After-run-ran, c.requires.0, c.requires.1)) (c.event-last.ensures ∙ ap (held_step c.run-ran.result.held) (part_to_end l (12 * c.run-ran.result.taken) ∙ ap (λ (k : ℕ). drop (12 * k) l) (all-taken (goal.at.returns c).After-run-ran))));
      taken_bound = omega (arith, all-taken (goal.at.returns c).After-run-ran, few);
    }
