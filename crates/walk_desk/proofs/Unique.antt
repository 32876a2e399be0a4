-- `seen_at` leaves one result, `written_at` one result and one content of the lent desk: two that both meet the contract, written out here, are equal,
-- by the laws of one and of two equations. Assumes nothing.
use Prim.Native.Nat.{ℕ}
use mathlib.Core.Path.{◌≡◌}
use mathlib.Core.List.{List}
use Rattle.purse.specs.declared.Purse.{Purse}
use Rattle.purse.proofs.Unique.{one, two}
use Rattle.desk.specs.declared.Desk.{Desk}
use Rattle.rules.specs.Events.{decoded}
use Rattle.asks.specs.declared.Seen.{Seen}
use Rattle.asks.specs.Asks.{seen_at}
use Rattle.deeds.specs.declared.Deed.{Deed}
use Rattle.deeds.specs.Deeds.{deed_at, desk_after}

pub seen_at_one : (desk : Desk) (event : List ℕ) (r s : Seen) → r ≡ seen_at desk (decoded event) → s ≡ seen_at desk (decoded event) → r ≡ s
seen_at_one desk event r s = one

pub written_at_one : (desk : Desk) (p : Purse) (seen : Seen) (event : List ℕ) (r s : Deed) (d e : Desk)
    → (r ≡ deed_at p seen desk (decoded event)) × (d ≡ desk_after desk (deed_at p seen desk (decoded event)))
    → (s ≡ deed_at p seen desk (decoded event)) × (e ≡ desk_after desk (deed_at p seen desk (decoded event)))
    → (r ≡ s) × (d ≡ e)
written_at_one desk p seen event r s d e = two
