-- `decode` leaves one result: two that both meet the contract, written out here, are equal, by the law of one equation. Assumes nothing.
use Prim.Native.Nat.{ℕ}
use mathlib.Core.Path.{◌≡◌}
use mathlib.Core.List.{List}
use Rattle.purse.proofs.Unique.{one}
use Rattle.rules.specs.declared.Event.{Event}
use Rattle.rules.specs.Events.{decoded}

pub decode_one : (event : List ℕ) (r s : Event) → r ≡ decoded event → s ≡ decoded event → r ≡ s
decode_one event r s = one
