-- What is answered on the table copied out, and stored, is what the bench's definitions say of the lent table: a table of 32 records is its own
-- copy, and another length is refused by both. Assumes nothing.
use mathlib.Core.Path.{◌≡◌, sym}
use Prim.Native.Nat.{ℕ}
use mathlib.Core.Bool.{false}
use mathlib.Core.Logic.{inl, inr}
use mathlib.Core.List.{List}
use lib.ListN.{length}
use lib.Dec.{eqb}
use Rattle.purse.specs.declared.Purse.{Purse}
use Rattle.purse.proofs.Bools.{which}
use Rattle.desk.specs.declared.Desk.{Desk}
use Rattle.desk.specs.declared.Held.{Held}
use Rattle.desk.specs.declared.Answered.{Answered}
use Rattle.rules.specs.Laid.{held_opening}
use Rattle.walk_table.specs.Lent.{held, copied_of}
use Rattle.walk_store.specs.Stored.{stored_of}

-- where a call g refuses another length with 2, its answer on the copy, stored, is its answer on the lent table
pub stored-whole : (g : Held → Answered) (l : List Purse) (d : Desk) → (eqb (length l) 32 ≡ false → g (held l d) ≡ record { answer = 2; held = held l d }) → stored_of l d (g (held (copied_of l) d)) ≡ g (held l d)
unfolding copied_of stored_of
stored-whole g l d refuses = elim (which (eqb (length l) 32)) [ inl p ↦ rw p | inr p ↦ rw p (sym (refuses p)) ]

opening_refuses : (l : List Purse) (d : Desk) (ns : List ℕ) → eqb (length l) 32 ≡ false → held_opening (held l d) ns ≡ record { answer = 2; held = held l d }
unfolding held_opening
opening_refuses l d ns p = rw p

pub opening_lent : (l : List Purse) (d : Desk) (ns : List ℕ) → stored_of l d (held_opening (held (copied_of l) d) ns) ≡ held_opening (held l d) ns
opening_lent l d ns = stored-whole (λ (h : Held). held_opening h ns) l d (opening_refuses l d ns)
