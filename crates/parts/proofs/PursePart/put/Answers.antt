-- `parts::PursePart::put` meets its contract. The six parts are put one after the other; a log of the code has eight places, so a purse has 136 bytes.
-- Assumes nothing.
use mathlib.Core.Path.{◌≡◌, sym, ◌∙◌}
use native.Mathlib.Omega.{arith}
use lib.ListN.{length, length-append}
use Rattle.bigendian.specs.Bytes.{big}
use Rattle.bigendian.proofs.Puts.{put_there, then_put, then_there, whole-put}
use Rattle.layout.specs.Widths.{details_width}
use Rattle.layout.specs.Records.{purse_bytes}
use borrow.Author.Rules.{rules}
use Rattle.parts.proofs.PursePart.put.Goals as goal

pub returns-clause-put : goal.returns-clause-put
unfolding purse_bytes big
returns-clause-put c =
    let l = c.args.out.now in
    let at = c.args.at in
    let long : length c.args.self.now.log ≡ 8 = search rules in
    let e1 = c.put_number.ensures ∙ put_there 4 l at _ (omega arith) in
    let e2 = then_there l at _ _ 4 e1 (omega arith) c.put_number-2.ensures (omega arith) in
    let e3 = then_there l at _ _ 1 e2 (omega arith) c.put_byte.ensures (omega arith) in
    let e4 = then_there l at _ _ 1 e3 (omega arith) c.put_byte-2.ensures (omega arith) in
    let e5 = then_there l at _ _ details_width e4 (omega arith) c.put.ensures.put (omega arith) in
    let log = c.put_all.ensures ∙ whole-put _ _ _ _ _ _ _ long (omega arith) (omega arith) in
    then_put l at _ _ e5 (simp length-append (omega (arith, c.put.ensures.wide))) log ∙ sym (put_there _ _ _ _ (omega arith))
