-- Writing an image leaves one result and one content of the buffer: two that both meet its contract, written out here, are equal, by the law of
-- two equations. Assumes nothing.
use Prim.Native.Nat.{ℕ}
use mathlib.Core.Path.{◌≡◌}
use mathlib.Core.List.{List}
use Rattle.purse.proofs.Unique.{two}
use Rattle.desk.specs.declared.Held.{Held}
use Rattle.layout.specs.declared.Written.{Written}
use Rattle.layout.specs.Calls.{held_write, held_buffer}

pub write_one : (held : Held) (out : List ℕ) (r s : Written) (a b : List ℕ)
    → (r ≡ held_write held out) × (a ≡ held_buffer held out)
    → (s ≡ held_write held out) × (b ≡ held_buffer held out)
    → (r ≡ s) × (a ≡ b)
write_one held out r s a b = two
