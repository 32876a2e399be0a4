-- Being the same is symmetric: of numbers, details, messages and entries. And a test asked only where another holds.
-- Assumes nothing.
use Prim.Native.Nat.{ℕ}
use mathlib.Core.Path.{◌≡◌, refl, ap}
use mathlib.Core.Bool.{Bool, true, false}
use lib.Dec.{eqb}
use borrow.Author.Tests.{eqb-true, eq-eqb}
use Rattle.purse.specs.declared.Details.{Details}
use Rattle.purse.specs.declared.Message.{Message}
use Rattle.purse.specs.Details.{same_details, same_message}
use Rattle.purse.proofs.Count.{turn}
use Rattle.desk.specs.declared.Entry.{Entry}
use Rattle.desk.specs.Desk.{same_entry}
use Rattle.rules.proofs.Facts.{details_equal, details_same, message_equal, message_same, entry_equal, entry_same}
use Rattle.table_records.specs.Records.{when, message_key, entry_key}

pub turn_number : (a b : ℕ) → eqb a b ≡ eqb b a
turn_number = turn eqb eqb-true (λ (n : ℕ). eq-eqb n n refl)

pub turn_details : (d e : Details) → same_details d e ≡ same_details e d
turn_details = turn same_details details_equal details_same

pub turn_message : (m k : Message) → same_message m k ≡ same_message k m
turn_message = turn same_message message_equal message_same

pub turn_entry : (e f : Entry) → same_entry e f ≡ same_entry f e
turn_entry = turn same_entry entry_equal entry_same

pub when_i : (a b : Bool) → (a ≡ true → b ≡ true) → when a b ≡ true
when_i true b h = h refl
when_i false b h = refl

pub when_e : (a b : Bool) → when a b ≡ true → a ≡ true → b ≡ true
when_e true b h e = h
when_e false b h e = cc

-- what is the same has the same key
pub message_key_lem : (m k : Message) → same_message m k ≡ true → message_key m ≡ message_key k
message_key_lem m k e = ap message_key (message_equal m k e)

pub entry_key_lem : (e f : Entry) → same_entry e f ≡ true → entry_key e ≡ entry_key f
entry_key_lem e f k = ap entry_key (entry_equal e f k)
