-- `parts::DetailsPart::put` meets its contract. The five fields are put one after the other, and a run of bytes after another is one run.
-- Assumes nothing.
use mathlib.Core.Path.{sym, ◌∙◌}
use native.Mathlib.Omega.{arith}
use Rattle.bigendian.specs.Bytes.{big}
use Rattle.bigendian.proofs.Puts.{put_there, then_there}
use Rattle.layout.specs.Records.{details_bytes}
use Rattle.parts.proofs.DetailsPart.put.Goals as goal

pub returns-clause-put : goal.returns-clause-put
unfolding details_bytes big
returns-clause-put c =
    let l = c.args.out.now in
    let at = c.args.at in
    let e1 = c.put_byte.ensures ∙ put_there 1 l at _ (omega arith) in
    let e2 = then_there l at _ _ 4 e1 (omega arith) c.put_number.ensures (omega arith) in
    let e3 = then_there l at _ _ 1 e2 (omega arith) c.put_byte-2.ensures (omega arith) in
    let e4 = then_there l at _ _ 4 e3 (omega arith) c.put_number-2.ensures (omega arith) in
    then_there l at _ _ 4 e4 (omega arith) c.put_number-3.ensures (omega arith) ∙ sym (put_there _ _ _ _ (omega arith))
