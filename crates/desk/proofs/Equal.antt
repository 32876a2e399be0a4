-- `==` of two entries is `same_entry`: equal in logging purse and details. Assumes nothing.
use Rattle.std.proofs.Common.{◌≡◌}
use Rattle.std.proofs.Math.Bool.{and_assoc}
use Rattle.purse.specs.Details.{same_details}
use Rattle.desk.specs.declared.Entry.{Entry}
use Rattle.desk.specs.Desk.{same_entry}
use Rattle.desk.specs.contracts.EntryPartialEq.TheImpl as entries

pub equal_entries : (e f : Entry) → (entries.ghosts).eq e f ≡ same_entry e f
unfolding same_entry same_details
equal_entries e f = simp and_assoc
