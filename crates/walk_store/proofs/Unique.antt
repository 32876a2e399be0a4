-- `stored` leaves one result and one content of the lent table and desk: two that both meet its contract, written out here, are equal, by the
-- law of three equations. Assumes nothing.
use Prim.Native.Nat.{ℕ}
use mathlib.Core.Path.{◌≡◌}
use mathlib.Core.List.{List}
use Rattle.purse.specs.declared.Purse.{Purse}
use Rattle.purse.proofs.Unique.{three}
use Rattle.desk.specs.declared.Desk.{Desk}
use Rattle.desk.specs.declared.Answered.{Answered}
use Rattle.walk_store.specs.Stored.{stored_of}

pub stored_one : (table : List Purse) (desk : Desk) (by : Answered) (r s : ℕ) (t u : List Purse) (d e : Desk)
    → (r ≡ (stored_of table desk by).answer)
    × (t ≡ (stored_of table desk by).held.table)
    × (d ≡ (stored_of table desk by).held.desk)
    → (s ≡ (stored_of table desk by).answer)
    × (u ≡ (stored_of table desk by).held.table)
    × (e ≡ (stored_of table desk by).held.desk)
    → (r ≡ s) × (t ≡ u) × (d ≡ e)
stored_one table desk by r s t u d e = three
