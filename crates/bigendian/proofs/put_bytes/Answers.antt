-- `bigendian::put_bytes` meets its contract. What is before, the bytes, what is behind: that is the run of stores.
-- Assumes nothing.
use Prim.Native.Nat.{◌+◌, ◌-◌, ◌≤◌}
use native.Mathlib.Omega.{arith}
use mathlib.Core.Path.{◌≡◌, sym}
use mathlib.Core.List.{append_assoc}
use lib.ListN.{length}
use lib.Seq.{drop-drop}
use Rattle.bigendian.proofs.Puts.{put_there, put_nowhere, put_eq}
use Rattle.bigendian.proofs.put_bytes.Goals as goal

pub returns-then-bytes-out : goal.returns-then-bytes-out
returns-then-bytes-out c =
    let at = c.args.at in
    let wide : at + length c.args.bytes.now - at ≡ length c.args.bytes.now = omega arith in
    let room : at + length c.args.bytes.now ≤ length c.args.out.now = omega arith in
    rw (wide, c.copy_from_slice.ensures.after, put_there _ _ _ _ room, put_eq _ _ _ room) (simp (append_assoc, drop-drop))

pub returns-else-at-out : goal.returns-else-at-out
returns-else-at-out c = sym (put_nowhere _ _ _ _ (omega arith))
