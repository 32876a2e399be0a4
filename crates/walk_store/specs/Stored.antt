-- What an entry leaves in the lent table and the desk, read off what the bench's definitions say of both together.
use Rattle.std.specs.Prelude.{cond, List, length, eqb}
use Rattle.purse.specs.declared.Purse.{Purse}
use Rattle.desk.specs.declared.Desk.{Desk}
use Rattle.desk.specs.declared.Answered.{Answered}
use Rattle.walk_table.specs.Lent.{held}

-- what was answered, where the table has 32 records; "lent table not 32 records (2)" otherwise, and nothing changed
unfoldable pub stored_of : List Purse → Desk → Answered → Answered
stored_of l d a = cond (eqb (length l) 32) a (record { answer = 2; held = held l d })
