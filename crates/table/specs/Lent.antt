-- The rules, of a table and a desk that are lent apart.
use Rattle.std.specs.Prelude.{List, Bool}
use Rattle.purse.specs.declared.Purse.{Purse}
use Rattle.desk.specs.declared.Desk.{Desk}
use Rattle.rules.specs.Laid.{held_ok}

abbrev pub lent_ok : List Purse → Desk → Bool
lent_ok l d = held_ok (record { table = l; desk = d })
