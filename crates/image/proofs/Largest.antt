-- "The largest image is 12,042 bytes": the bench with every place used, 32 purses, 256 messages and 256 archive entries, obeys the rules, by
-- computing them, and its image has that length, by its counts. That no image is longer is `largest`, crate layout. Assumes nothing.
use mathlib.Core.Path.{◌≡◌, refl}
use mathlib.Core.Bool.{true}
use lib.ListN.{length}
use Rattle.purse.specs.Details.{same_details, same_message, legal, named, as_payer, as_payee, entry_ok, absent}
use Rattle.purse.specs.Purse.{idle_ok, busy_ok, place_ok, log_ok, well_formed}
use Rattle.desk.specs.Desk.{same_entry}
use Rattle.rules.specs.Table.{counts_ok, in_table, purse_ok, message_ok, archive_ok, once_ok, clear_ok, table_ok}
use Rattle.rules.specs.Laid.{is_zero_purse, is_zero_message, is_zero_entry, held_ok}
use Rattle.rules.proofs.BrokenTables.{full}
use Rattle.layout.specs.Image.{image_of}
use Rattle.layout.proofs.Stands.{held-length}

pub full_obeys : held_ok full ≡ true
unfolding same_details legal named as_payer as_payee entry_ok absent idle_ok busy_ok place_ok log_ok well_formed same_message same_entry counts_ok in_table purse_ok message_ok archive_ok once_ok clear_ok table_ok is_zero_purse is_zero_message is_zero_entry held_ok
full_obeys = refl

pub reached : (held_ok full ≡ true) × (length (image_of full) ≡ 12_042)
reached = (full_obeys, held-length full full_obeys)
