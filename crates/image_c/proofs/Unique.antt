-- The entries of stored images leave one result and one content of each lent part: two that both meet a contract, written out here, are equal,
-- by the laws of two and three equations. Assumes nothing.
use Prim.Native.Nat.{ℕ}
use mathlib.Core.Path.{◌≡◌}
use mathlib.Core.List.{List}
use Rattle.purse.specs.declared.Purse.{Purse}
use Rattle.purse.proofs.Unique.{two, three}
use Rattle.desk.specs.declared.Desk.{Desk}
use Rattle.layout.specs.declared.Written.{Written}
use Rattle.layout.specs.Calls.{held_write, held_buffer, held_read}
use Rattle.walk_table.specs.Lent.{held}

pub prs_write_one : (table : List Purse) (desk : Desk) (out : List ℕ) (r s : Written) (a b : List ℕ)
    → (r ≡ held_write (held table desk) out) × (a ≡ held_buffer (held table desk) out)
    → (s ≡ held_write (held table desk) out) × (b ≡ held_buffer (held table desk) out)
    → (r ≡ s) × (a ≡ b)
prs_write_one table desk out r s a b = two

pub prs_read_one : (table : List Purse) (desk : Desk) (bytes : List ℕ) (r s : ℕ) (t u : List Purse) (d e : Desk)
    → (r ≡ (held_read (held table desk) bytes).answer)
    × (t ≡ (held_read (held table desk) bytes).held.table)
    × (d ≡ (held_read (held table desk) bytes).held.desk)
    → (s ≡ (held_read (held table desk) bytes).answer)
    × (u ≡ (held_read (held table desk) bytes).held.table)
    × (e ≡ (held_read (held table desk) bytes).held.desk)
    → (r ≡ s) × (t ≡ u) × (d ≡ e)
prs_read_one table desk bytes r s t u d e = three
