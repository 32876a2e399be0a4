-- `parts::EntryPart::put` meets its contract. The logging purse and the details are put one after the other.
-- Assumes nothing.
use mathlib.Core.Path.{sym, ◌∙◌}
use native.Mathlib.Omega.{arith}
use Rattle.bigendian.proofs.Puts.{put_there, then_there}
use Rattle.layout.specs.Widths.{details_width}
use Rattle.layout.specs.Records.{entry_bytes}
use Rattle.parts.proofs.EntryPart.put.Goals as goal

pub returns-clause-put : goal.returns-clause-put
unfolding entry_bytes
returns-clause-put c =
    let l = c.args.out.now in
    let at = c.args.at in
    let e1 = c.put_byte.ensures ∙ put_there 1 l at _ (omega arith) in
    then_there l at _ _ details_width e1 (omega arith) c.put.ensures.put (omega arith) ∙ sym (put_there _ _ _ _ (omega arith))
