-- The worked listing of document 01, computed, on the lists and on the table of 32 records and the desk of 256 and 256 places.
-- Assumes nothing.
use Prim.Native.Nat.{ℕ}
use mathlib.Core.Path.{◌≡◌, refl}
use mathlib.Core.List.{List, [], ◌∷◌, map}
use lib.ListN.{length, take}
use Rattle.bigendian.specs.Bytes.{number_at}
use Rattle.purse.specs.declared.Purse.{Purse}
use Rattle.purse.specs.Details.{same_details, same_message, legal, named, as_payer, as_payee, entry_ok, absent}
use Rattle.purse.specs.Purse.{idle_ok, busy_ok, place_ok, log_ok, well_formed}
use Rattle.purse.specs.Step.{start_number, from_number, to_number, expected, deliver_number, abort_number, collect_number, start_from, start_to, deliver_to, abort_by, collect_by}
use Rattle.desk.specs.declared.Held.{Held}
use Rattle.desk.specs.Desk.{same_entry}
use Rattle.rules.specs.Bench.{Bench}
use Rattle.rules.specs.Table.{counts_ok, in_table, purse_ok, message_ok, archive_ok, once_ok, clear_ok, table_ok}
use Rattle.rules.specs.Events.{decoded}
use Rattle.rules.specs.Steps.{acting, step}
use Rattle.rules.specs.Run.{opening_number, opened, run, answers}
use Rattle.rules.specs.Paid.{claims}
use Rattle.rules.specs.Laid.{laid, seen, is_zero_purse, is_zero_message, is_zero_entry, held_ok, held_step, held_run, held_answers, held_claims}

-- 02 000003E8 000000C8
abbrev pub balances : List ℕ
balances = 1000 ∷ 200 ∷ []

abbrev pub start : Bench
start = opened balances

abbrev pub events : List (List ℕ)
events =
    (1 ∷ 0 ∷ 1 ∷ 0 ∷ 0 ∷ 0 ∷ 0 ∷ 1 ∷ 0 ∷ 0 ∷ 1 ∷ 44 ∷ [])
    ∷ (2 ∷ 1 ∷ 0 ∷ 0 ∷ 0 ∷ 0 ∷ 0 ∷ 1 ∷ 0 ∷ 0 ∷ 1 ∷ 44 ∷ [])
    ∷ (3 ∷ 0 ∷ 0 ∷ 0 ∷ 0 ∷ 0 ∷ 0 ∷ 0 ∷ 0 ∷ 0 ∷ 0 ∷ 0 ∷ [])
    ∷ (4 ∷ 1 ∷ 0 ∷ 0 ∷ 0 ∷ 0 ∷ 0 ∷ 0 ∷ 0 ∷ 0 ∷ 0 ∷ 0 ∷ [])
    ∷ (3 ∷ 1 ∷ 0 ∷ 0 ∷ 0 ∷ 0 ∷ 0 ∷ 1 ∷ 0 ∷ 0 ∷ 0 ∷ 0 ∷ [])
    ∷ (4 ∷ 0 ∷ 0 ∷ 0 ∷ 0 ∷ 0 ∷ 0 ∷ 0 ∷ 0 ∷ 0 ∷ 0 ∷ 0 ∷ [])
    ∷ (6 ∷ 0 ∷ 0 ∷ 0 ∷ 0 ∷ 0 ∷ 0 ∷ 0 ∷ 0 ∷ 0 ∷ 0 ∷ 0 ∷ [])
    ∷ (6 ∷ 1 ∷ 0 ∷ 0 ∷ 0 ∷ 0 ∷ 0 ∷ 0 ∷ 0 ∷ 0 ∷ 0 ∷ 0 ∷ []) ∷ []

-- a purse's line: balance, next number, status, log entries
abbrev line : Purse → List ℕ
line p = p.balance.0 ∷ p.next.0 ∷ p.status ∷ p.logged ∷ []

-- the last line: messages, archive, claims
abbrev last_line : Bench → List ℕ
last_line b = length b.messages ∷ length b.archive ∷ claims b ∷ []

pub record Listing : Type 0 where
  pub opens : opening_number balances ≡ 0
  pub answered : answers start events ≡ 0 ∷ 0 ∷ 0 ∷ 0 ∷ 13 ∷ 0 ∷ 0 ∷ 0 ∷ []
  pub lines : map line (run start events).purses ≡ (700 ∷ 2 ∷ 0 ∷ 0 ∷ []) ∷ (200 ∷ 2 ∷ 0 ∷ 0 ∷ []) ∷ []
  pub last : last_line (run start events) ≡ 2 ∷ 2 ∷ 300 ∷ []
  -- "the same input cut after event 6 now ends with claims 300" (02, A1)
  pub cut : last_line (run start (take 6 events)) ≡ 2 ∷ 0 ∷ 300 ∷ []
  -- and after event 7, the payer's entry archived and the payee's still on its card
  pub half : last_line (run start (take 7 events)) ≡ 2 ∷ 1 ∷ 300 ∷ []

pub listing : Listing
unfolding same_details legal named as_payer as_payee entry_ok absent idle_ok busy_ok place_ok log_ok well_formed start_number from_number to_number expected deliver_number abort_number collect_number start_from start_to deliver_to abort_by collect_by same_message counts_ok in_table purse_ok message_ok archive_ok once_ok clear_ok table_ok decoded number_at acting step opening_number claims
listing = record { opens = refl; answered = refl; lines = refl; last = refl; cut = refl; half = refl }

-- the table and the desk after the last event
abbrev end : Held
end = held_run (laid start) events

pub record HeldListing : Type 0 where
  pub answered : held_answers (laid start) events ≡ 0 ∷ 0 ∷ 0 ∷ 0 ∷ 13 ∷ 0 ∷ 0 ∷ 0 ∷ []
  pub lines : map line (seen end).purses ≡ (700 ∷ 2 ∷ 0 ∷ 0 ∷ []) ∷ (200 ∷ 2 ∷ 0 ∷ 0 ∷ []) ∷ []
  pub counts : end.desk.purses ∷ end.desk.ether.count ∷ end.desk.archive.count ∷ [] ≡ 2 ∷ 2 ∷ 2 ∷ []
  pub owed : held_claims end ≡ record { answer = 0; claims = 300 }

pub held_listing : HeldListing
unfolding same_details legal named as_payer as_payee entry_ok absent idle_ok busy_ok place_ok log_ok well_formed start_number from_number to_number expected deliver_number abort_number collect_number start_from start_to deliver_to abort_by collect_by same_message counts_ok in_table purse_ok message_ok archive_ok once_ok clear_ok table_ok decoded number_at acting step claims same_entry is_zero_purse is_zero_message is_zero_entry held_ok held_step held_claims
held_listing = record { answered = refl; lines = refl; counts = refl; owed = refl }
