-- The lent table beside the desk, and its records copied out.
use Rattle.std.specs.Prelude.{cond, List, length, replicate, eqb}
use Rattle.purse.specs.declared.Purse.{Purse}
use Rattle.purse.specs.Purse.{zero_purse}
use Rattle.desk.specs.declared.Desk.{Desk}
use Rattle.desk.specs.declared.Held.{Held}

-- a lent table and a desk
abbrev pub held : List Purse → Desk → Held
held l d = record { table = l; desk = d }

-- the records of a table of 32; of another length, unused ones
unfoldable pub copied_of : List Purse → List Purse
copied_of l = cond (eqb (length l) 32) l (replicate 32 zero_purse)
