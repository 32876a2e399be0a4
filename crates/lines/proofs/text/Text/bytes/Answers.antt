-- The bytes are copied behind those that are written.
-- Assumes nothing.
use native.Mathlib.Omega.{arith}
use mathlib.Core.Path.{◌≡◌, refl, ap, ◌∙◌}
use Prim.Native.Nat.{◌+◌, ◌-◌}
use lib.ListN.{length}
use borrow.Rule.Slice.PartMut.{put_mid}
use Rattle.bigendian.specs.Bytes.{put}
use Rattle.bigendian.proofs.Puts.{length-put}
use Rattle.lines.proofs.Puts.{copied}
use Rattle.lines.proofs.text.Text.bytes.Goals as goal

pub returns : goal.returns
returns c =
    let t = c.args.self.now in
    let bytes = c.args.bytes.now in
    let k = t.length + length bytes - t.length in
    let put : put_mid t.length k t.buffer.now c.copy_from_slice.new.self ≡ put t.buffer.now t.length bytes =
    rw c.copy_from_slice.ensures.after (copied t.buffer.now bytes t.length k (omega arith) c.requires) in
    record { same_buffer = refl; room = ap length put ∙ length-put t.buffer.now t.length bytes; behind = refl; holds = put }
