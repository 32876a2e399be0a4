-- The digits are those that the library writes.
-- Assumes nothing.
use mathlib.Core.Path.{◌∙◌}
use Rattle.lines.proofs.Puts.{same_bytes}
use Rattle.lines.proofs.Digits.{decimal_of}
use Rattle.lines.proofs.text.Text.number.Goals as goal

pub returns-clause-added : goal.returns-clause-added
returns-clause-added c =
    same_bytes (c.as_bytes.ensures.value ∙ c.format.ensures.text ∙ decimal_of c.args.n c.ranges.n.fits) c.bytes.ensures
