-- `bench::runs::run` meets its contract: where the rules are broken every event that is taken is answered 2. Assumes nothing.
use mathlib.Core.Path.{◌≡◌, ◌∙◌, sym}
use mathlib.Core.Bool.{false}
use Prim.Native.Nat.{ℕ}
use native.Mathlib.Omega.{arith}
use lib.ListN.{length, take, replicate}
use lib.Seq.{length-take-le}
use Rattle.rules.specs.Laid.{held_ok}
use Rattle.bench.specs.Runs.{pieces, taken}
use Rattle.bench.proofs.Filling.{taken_is, refused_run, refused_answers}
use Rattle.bench.proofs.runs.run.Goals as goal

pub returns-else-held_ok : goal.returns-else-held_ok
returns-else-held_ok c =
    let held = c.args.held in
    let input = c.args.input.now in
    let answers = c.args.answers.now in
    let bad : held_ok held ≡ false = sym c.held_ok.ensures ∙ c.if-held_ok.false in
    let n = c.min-taken.result in
    let s : n ≡ taken input answers = c.min-taken.ensures ∙ taken_is input answers in
    let many : length (take n answers) ≡ n = length-take-le n answers (omega arith) in
    let twos : c.fill.new.self ≡ replicate n 2 = c.fill.ensures.after (λ (y : ℕ) e. e) ∙ rw (many, c.from.ensures) in (
      s,
      sym (refused_run held (pieces (taken input answers) input) bad),
      rw twos (rw s (rw (refused_answers held (taken input answers) input bad))),
    )
