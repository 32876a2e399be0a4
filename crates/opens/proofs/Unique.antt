-- Opening leaves one result: two that both meet its contract, written out here, are equal, by the law of one equation. Assumes nothing.
use Prim.Native.Nat.{ℕ}
use mathlib.Core.Path.{◌≡◌}
use mathlib.Core.List.{List}
use Rattle.purse.proofs.Unique.{one}
use Rattle.desk.specs.declared.Held.{Held}
use Rattle.desk.specs.declared.Answered.{Answered}
use Rattle.rules.specs.Laid.{held_opening}

pub opening_one : (held : Held) (balances : List ℕ) (r s : Answered) → r ≡ held_opening held balances → s ≡ held_opening held balances → r ≡ s
opening_one held balances r s = one
