-- Reading an image leaves one result: two that both meet its contract, written out here, are equal, by the law of one equation. Assumes nothing.
use Prim.Native.Nat.{ℕ}
use mathlib.Core.Path.{◌≡◌}
use mathlib.Core.List.{List}
use Rattle.purse.proofs.Unique.{one}
use Rattle.desk.specs.declared.Held.{Held}
use Rattle.desk.specs.declared.Answered.{Answered}
use Rattle.layout.specs.Calls.{held_read}

pub read_one : (held : Held) (bytes : List ℕ) (r s : Answered) → r ≡ held_read held bytes → s ≡ held_read held bytes → r ≡ s
read_one held bytes r s = one
