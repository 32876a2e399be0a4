-- `look` leaves one result: two that both meet the contract, written out here, are equal, by the law of one equation. Assumes nothing.
use Prim.Native.Nat.{ℕ}
use mathlib.Core.Path.{◌≡◌}
use Rattle.purse.specs.declared.Message.{Message}
use Rattle.purse.proofs.Unique.{one}
use Rattle.rules.specs.declared.Event.{Event}
use Rattle.asks.specs.declared.Seen.{Seen}
use Rattle.asks.specs.Asks.{seen_with}

pub look_one : (purses messages entries : ℕ) (m : Message) (event : Event) (r s : Seen) → r ≡ seen_with purses messages entries m event → s ≡ seen_with purses messages entries m event → r ≡ s
look_one purses messages entries m event r s = one
