-- `writing::put_head` meets its contract. The seven parts are put one after the other.
-- Assumes nothing.
use mathlib.Core.Path.{◌∙◌}
use native.Mathlib.Omega.{arith}
use Rattle.bigendian.specs.Bytes.{big}
use Rattle.bigendian.proofs.Puts.{put_there, then_there}
use Rattle.layout.specs.Head.{head_bytes}
use Rattle.writing.proofs.put_head.Goals as goal

pub returns : goal.returns
unfolding head_bytes big
returns c =
    let l = c.args.out.now in
    let e1 = c.put_byte.ensures ∙ put_there 1 l 0 _ (omega arith) in
    let e2 = then_there l 0 _ _ 1 e1 (omega arith) c.put_byte-2.ensures (omega arith) in
    let e3 = then_there l 0 _ _ 1 e2 (omega arith) c.put_byte-3.ensures (omega arith) in
    let e4 = then_there l 0 _ _ 2 e3 (omega arith) c.put_count.ensures (omega arith) in
    let e5 = then_there l 0 _ _ 1 e4 (omega arith) c.put_byte-4.ensures (omega arith) in
    let e6 = then_there l 0 _ _ 2 e5 (omega arith) c.put_count-2.ensures (omega arith) in
    then_there l 0 _ _ 2 e6 (omega arith) c.put_count-3.ensures (omega arith)
