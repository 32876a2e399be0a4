-- What writing takes from the laws of an image: how long a well-formed bench's is, and a buffer with it at the start.
-- Assumes nothing.
use Prim.Native.Nat.{ℕ, ◌+◌, ◌≤◌}
use mathlib.Core.Path.{◌≡◌, ◌∙◌}
use mathlib.Core.Bool.{true, false, not}
use mathlib.Core.Logic.{⊎_elim}
use lib.Dec.{ltb}
use Rattle.purse.specs.Tests.{after}
use Rattle.purse.proofs.Bools.{which}
use Rattle.layout.specs.Calls.{write_number}
use mathlib.Core.List.{List, ◌++◌}
use lib.ListN.{length, drop}
use native.Mathlib.Nat.{zero-add}
use Rattle.desk.specs.declared.Held.{Held}
use Rattle.bigendian.specs.Bytes.{put}
use Rattle.bigendian.proofs.Puts.{put_eq}
use Rattle.rules.specs.Laid.{held_ok}
use Rattle.layout.specs.Head.{image_length}
use Rattle.layout.specs.Image.{image_of}
use Rattle.layout.proofs.Stands.{held-length}

pub image_long : (h : Held) → held_ok h ≡ true → length (image_of h) ≡ image_length h.desk.purses h.desk.ether.count h.desk.archive.count
image_long h ok = held-length h ok

pub put_at_start : (out image : List ℕ) → length image ≤ length out → put out 0 image ≡ image ++ drop (length image) out
put_at_start out image h =
    let room : 0 + length image ≤ length out = rw zero-add h in
    put_eq out 0 image room ∙ rw zero-add

-- the tests of writing, one by one: the second looks at the counts alone, which matters only where the first has passed
pub write_number_lem : (h : Held) (out : List ℕ) → after (after 0 (not (held_ok h)) 2) (ltb (length out) (image_length h.desk.purses h.desk.ether.count h.desk.archive.count)) 19 ≡ write_number h out
unfolding write_number
write_number_lem h out =
    ⊎_elim (λ (w : held_ok h ≡ true). rw (w, held-length h w)) (λ (w : held_ok h ≡ false). rw w) (which (held_ok h))
