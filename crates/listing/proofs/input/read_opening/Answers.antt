-- All balances there, or none.
-- Assumes nothing.
use mathlib.Core.Path.{◌≡◌, sym, ◌∙◌}
use mathlib.Core.Bool.{true}
use Rattle.bigendian.specs.Bytes.{number_at}
use Rattle.bigendian.proofs.Coded.{length-many}
use Rattle.listing.specs.Opening.{whole_opening, balances_in, opening_in}
use Rattle.listing.proofs.input.read_opening.Goals as goal

pub returns-clause-value : goal.returns-clause-value
unfolding balances_in opening_in
returns-clause-value c =
    let l = c.args.input.now in
    let whole : whole_opening l ≡ true = sym c.is_whole.ensures ∙ c.if-not-is_whole.false in
    simp (c.balances.ensures, c.from-count.ensures, whole, length-many (number_at 4) 4)
