-- Document 01's worked input gives its listing, byte for byte, by computation: header, event lines, purse lines and the last line. And an
-- opening that is refused gives two lines.
-- Assumes nothing.
use Prim.Native.Nat.{ℕ}
use mathlib.Core.Path.{◌≡◌, refl}
use mathlib.Core.List.{List, [], ◌∷◌}
use Rattle.purse.specs.Details.{same_details, same_message, legal, named, as_payer, as_payee, entry_ok, absent}
use Rattle.purse.specs.Purse.{idle_ok, busy_ok, place_ok, log_ok, well_formed}
use Rattle.purse.specs.Step.{start_number, from_number, to_number, expected, deliver_number, abort_number, collect_number, start_from, start_to, deliver_to, abort_by, collect_by}
use Rattle.desk.specs.Desk.{same_entry}
use Rattle.bigendian.specs.Bytes.{number_at, many}
use Rattle.rules.specs.Table.{counts_ok, in_table, purse_ok, message_ok, archive_ok, once_ok, clear_ok, table_ok}
use Rattle.rules.specs.Events.{decoded}
use Rattle.rules.specs.Steps.{acting, step}
use Rattle.rules.specs.Run.{opening_number}
use Rattle.rules.specs.Paid.{claims}
use Rattle.rules.specs.Laid.{is_zero_purse, is_zero_message, is_zero_entry, held_ok, held_step, held_opening, held_claims}
use Rattle.lines.specs.Text.{digits, numbered}
use Rattle.lines.specs.Listing.{opening_line, event_line, purse_line, last_line, foot_with, foot_of}
use Rattle.listing.specs.Opening.{whole_opening, balances_in}
use Rattle.listing.specs.Piece.{events_in, piece_lines}
use Rattle.listing.specs.Whole.{listing_of}

-- 02 000003E8 000000C8, then the eight events
abbrev input : List ℕ
input =
    2 ∷ 0 ∷ 0 ∷ 3 ∷ 232 ∷ 0 ∷ 0 ∷ 0 ∷ 200
    ∷ 1 ∷ 0 ∷ 1 ∷ 0 ∷ 0 ∷ 0 ∷ 0 ∷ 1 ∷ 0 ∷ 0 ∷ 1 ∷ 44
    ∷ 2 ∷ 1 ∷ 0 ∷ 0 ∷ 0 ∷ 0 ∷ 0 ∷ 1 ∷ 0 ∷ 0 ∷ 1 ∷ 44
    ∷ 3 ∷ 0 ∷ 0 ∷ 0 ∷ 0 ∷ 0 ∷ 0 ∷ 0 ∷ 0 ∷ 0 ∷ 0 ∷ 0
    ∷ 4 ∷ 1 ∷ 0 ∷ 0 ∷ 0 ∷ 0 ∷ 0 ∷ 0 ∷ 0 ∷ 0 ∷ 0 ∷ 0
    ∷ 3 ∷ 1 ∷ 0 ∷ 0 ∷ 0 ∷ 0 ∷ 0 ∷ 1 ∷ 0 ∷ 0 ∷ 0 ∷ 0
    ∷ 4 ∷ 0 ∷ 0 ∷ 0 ∷ 0 ∷ 0 ∷ 0 ∷ 0 ∷ 0 ∷ 0 ∷ 0 ∷ 0
    ∷ 6 ∷ 0 ∷ 0 ∷ 0 ∷ 0 ∷ 0 ∷ 0 ∷ 0 ∷ 0 ∷ 0 ∷ 0 ∷ 0
    ∷ 6 ∷ 1 ∷ 0 ∷ 0 ∷ 0 ∷ 0 ∷ 0 ∷ 0 ∷ 0 ∷ 0 ∷ 0 ∷ 0 ∷ []

-- the listing, a line of it to a row
abbrev listing : List ℕ
listing =
    80 ∷ 82 ∷ 83 ∷ 32 ∷ 49 ∷ 10
    ∷ 49 ∷ 32 ∷ 48 ∷ 10
    ∷ 50 ∷ 32 ∷ 48 ∷ 10
    ∷ 51 ∷ 32 ∷ 48 ∷ 10
    ∷ 52 ∷ 32 ∷ 48 ∷ 10
    ∷ 53 ∷ 32 ∷ 49 ∷ 51 ∷ 10
    ∷ 54 ∷ 32 ∷ 48 ∷ 10
    ∷ 55 ∷ 32 ∷ 48 ∷ 10
    ∷ 56 ∷ 32 ∷ 48 ∷ 10
    ∷ 112 ∷ 117 ∷ 114 ∷ 115 ∷ 101 ∷ 32 ∷ 48 ∷ 32 ∷ 55 ∷ 48 ∷ 48 ∷ 32 ∷ 50 ∷ 32 ∷ 48 ∷ 32 ∷ 48 ∷ 10
    ∷ 112 ∷ 117 ∷ 114 ∷ 115 ∷ 101 ∷ 32 ∷ 49 ∷ 32 ∷ 50 ∷ 48 ∷ 48 ∷ 32 ∷ 50 ∷ 32 ∷ 48 ∷ 32 ∷ 48 ∷ 10
    ∷ 109 ∷ 101 ∷ 115 ∷ 115 ∷ 97 ∷ 103 ∷ 101 ∷ 115 ∷ 32 ∷ 50 ∷ 32 ∷ 97 ∷ 114 ∷ 99 ∷ 104 ∷ 105 ∷ 118 ∷ 101 ∷ 32 ∷ 50 ∷ 32 ∷ 99 ∷ 108 ∷ 97 ∷ 105 ∷ 109 ∷ 115 ∷ 32 ∷ 51 ∷ 48 ∷ 48 ∷ 10 ∷ []

pub record Worked : Type 0 where
  pub worked : listing_of input ≡ listing
  -- no bytes at all: "PRS 1", "opening 20"
  pub nothing : listing_of [] ≡ 80 ∷ 82 ∷ 83 ∷ 32 ∷ 49 ∷ 10 ∷ 111 ∷ 112 ∷ 101 ∷ 110 ∷ 105 ∷ 110 ∷ 103 ∷ 32 ∷ 50 ∷ 48 ∷ 10 ∷ []

pub worked : Worked
unfolding same_details legal named as_payer as_payee entry_ok absent idle_ok busy_ok place_ok log_ok well_formed start_number from_number to_number expected deliver_number abort_number collect_number start_from start_to deliver_to abort_by collect_by same_message counts_ok in_table purse_ok message_ok archive_ok once_ok clear_ok table_ok decoded acting step opening_number claims same_entry is_zero_purse is_zero_message is_zero_entry held_ok held_step held_opening held_claims number_at many digits numbered opening_line event_line purse_line last_line foot_with foot_of whole_opening balances_in events_in piece_lines listing_of
worked = record { worked = refl; nothing = refl }
