-- `default` of an entry is the all-zero one. Assumes nothing.
use Rattle.std.proofs.Common.{◌≡◌, rules}
use Rattle.desk.specs.declared.Entry.{Entry}
use Rattle.desk.specs.Desk.{zero_entry}
use Rattle.desk.specs.contracts.EntryDefault.TheImpl as entries

pub default_entry : (e : Entry) → (entries.ghosts).is_default e → e ≡ zero_entry
default_entry e h = search rules
