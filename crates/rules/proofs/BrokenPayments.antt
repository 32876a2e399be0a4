-- Worked payments, most of them broken, by computation: one step at a time; the listing; a payee with eight log entries; two payments of
-- one price. And why demand 3 speaks of opened benches.
-- Assumes nothing.
use Prim.Native.Nat.{ℕ, zero, suc}
use mathlib.Core.Path.{◌≡◌, refl}
use mathlib.Core.Bool.{true}
use mathlib.Core.List.{List, [], ◌∷◌, ◌++◌, map}
use lib.ListN.{length}
use Rattle.bigendian.specs.Bytes.{number_at}
use Rattle.purse.specs.declared.Details.{Details}
use Rattle.purse.specs.declared.Message.{Message}
use Rattle.purse.specs.declared.Purse.{Purse}
use Rattle.purse.specs.Lists.{padded}
use Rattle.purse.specs.Details.{value, acknowledge, zero_details, same_details, same_message, legal, named, as_payer, as_payee, entry_ok, absent}
use Rattle.purse.specs.Purse.{idle, epv, log_places, idle_ok, busy_ok, place_ok, log_ok, well_formed}
use Rattle.purse.specs.Step.{start_number, from_number, to_number, expected, deliver_number, abort_number, collect_number, start_from, start_to, deliver_to, abort_by, collect_by}
use Rattle.desk.specs.declared.Entry.{Entry}
use Rattle.rules.specs.Bench.{Bench, called, logged_by}
use Rattle.rules.specs.Table.{counts_ok, in_table, purse_ok, message_ok, archive_ok, once_ok, clear_ok, table_ok}
use Rattle.rules.specs.Events.{decoded}
use Rattle.rules.specs.Steps.{acting, step}
use Rattle.rules.specs.Run.{run, answers}
use Rattle.rules.specs.Paid.{amount_of, effect_by, paid, arrived, matched, claims, abort_of}
use Rattle.rules.proofs.Samples.{event, from, to, delivery, payment}
use Rattle.rules.proofs.Listing.{start, events}

-- what is left, in numbers
abbrev balances : Bench → List ℕ
balances b = map (λ (p : Purse). p.balance.0) b.purses

abbrev kinds : Bench → List ℕ
kinds b = map (λ (m : Message). m.kind) b.messages

abbrev loggers : Bench → List ℕ
loggers b = map (λ (e : Entry). e.by.0) b.archive

abbrev amounts : List Details → List ℕ
amounts l = map amount_of l

abbrev collection : ℕ → List ℕ
collection p = event 6 p 0 0 0

-- a payment of 300 by purse 0 to purse 1, the first of both
abbrev first : Details
first = payment 1 1 300

abbrev entry : ℕ → Details → Entry
entry n d = record { by = called n; details = d }

-- purse 1 in that status with those details and that log, purse 0 idle; a value stands
abbrev payee : ℕ → Details → List Details → List Entry → Bench
payee status running log archive =
    record {
      purses =
          record {
            balance = record { 0 = 1000 };
            next = record { 0 = 3 };
            status = idle;
            details = zero_details;
            log = padded log_places zero_details [];
            logged = 0;
          }
          ∷ record {
            balance = record { 0 = 200 };
            next = record { 0 = 3 };
            status = status;
            details = running;
            log = padded log_places zero_details log;
            logged = length log;
          }
          ∷ [];
      messages = record { kind = value; details = first } ∷ [];
      archive = archive;
    }

-- it waits for the value; it does not; it has logged the payment; the archive has two payments of one price, each of one side
abbrev waiting : Bench
waiting = payee epv first [] []

abbrev indifferent : Bench
indifferent = payee idle zero_details [] []

abbrev stopped : Bench
stopped = payee idle zero_details (first ∷ []) []

abbrev apart : Bench
apart = payee idle zero_details [] (entry 0 first ∷ entry 1 (payment 2 2 300) ∷ [])

-- purse 1 starts and stops n payments as payee: each leaves a log entry
abbrev broken : ℕ → List (List ℕ)
broken zero = []
broken (suc n) = to 1 0 5 ∷ abort_of 1 ∷ broken n

-- a payee with eight log entries: its start is refused, so no request stands and the payer cannot pay
abbrev eight : Bench
eight = run start (broken 8)

abbrev attempt : List (List ℕ)
attempt = from 0 1 300 ∷ to 1 0 300 ∷ delivery 0 8 ∷ abort_of 0 ∷ []

-- two payments of 300: of the first the value arrives and the payer stops; of the second nothing is paid and the payee stops. Each purse
-- has logged one of them, so by purses and amount alone they would pair
abbrev crossed : List (List ℕ)
crossed =
    event 1 0 1 1 300 ∷ event 2 1 0 1 300 ∷ delivery 0 0 ∷ delivery 1 1 ∷ abort_of 0
    ∷ event 1 0 1 2 300 ∷ event 2 1 0 2 300 ∷ abort_of 1 ∷ abort_of 0
    ∷ []

abbrev collected : List (List ℕ)
collected = crossed ++ (collection 0 ∷ collection 1 ∷ [])

pub record Worked : Type 0 where
  -- the value is taken: the money arrives, the message stays and the acknowledge stands behind it, 300 has arrived
  pub taken_balances : balances (step waiting (delivery 1 0)).bench ≡ 1000 ∷ 500 ∷ []
  pub taken-messages : kinds (step waiting (delivery 1 0)).bench ≡ value ∷ acknowledge ∷ []
  pub taken-arrived : amounts (arrived waiting (delivery 1 0 ∷ [])) ≡ 300 ∷ []
  -- the value is refused: nothing has arrived
  pub refused-answer : (step indifferent (delivery 1 0)).answer ≡ 13
  pub refused-arrived : amounts (arrived indifferent (delivery 1 0 ∷ [])) ≡ []
  -- the payee's entry is collected as the payee's
  pub collected_by : loggers (step stopped (collection 1)).bench ≡ 1 ∷ []
  -- each purse has logged a payment of 300, and not the same: nothing is matched, nothing is claimed
  pub apart_matched : amounts (matched apart 0) ≡ []
  pub apart_claims : claims apart ≡ 0
  -- why demand 3 speaks of opened benches: `waiting` obeys the rules, its value was never paid, and the delivery above made money
  pub forged_obeys : table_ok waiting ≡ true
  pub forged_unpaid : amounts (paid waiting (delivery 1 0 ∷ [])) ≡ []
  -- the listing: 300 paid, nothing arrived, one matched pair, of payer 0
  pub listing_paid : amounts (paid start events) ≡ 300 ∷ []
  pub listing_arrived : amounts (arrived start events) ≡ []
  pub listing_matched : amounts (matched (run start events) 0) ≡ 300 ∷ []
  pub listing_other : amounts (matched (run start events) 1) ≡ []
  -- eight entries: 10, and no money moves
  pub eight_answers : answers eight attempt ≡ 0 ∷ 10 ∷ 5 ∷ 0 ∷ []
  pub eight_balances : balances (run eight attempt) ≡ 1000 ∷ 200 ∷ []
  pub eight_paid : amounts (paid eight attempt) ≡ []
  -- one price twice
  pub crossed_logs : amounts (logged_by (run start crossed) 0 ++ logged_by (run start crossed) 1) ≡ 300 ∷ 300 ∷ []
  pub crossed_balances : balances (run start crossed) ≡ 700 ∷ 500 ∷ []
  pub crossed_arrived : amounts (arrived start crossed) ≡ 300 ∷ []
  pub crossed_matched : amounts (matched (run start crossed) 0) ≡ []
  pub crossed_claims : claims (run start crossed) ≡ 0
  pub crossed_archived : claims (run start collected) ≡ 0

pub worked : Worked
unfolding same_details legal named as_payer as_payee entry_ok absent idle_ok busy_ok place_ok log_ok well_formed start_number from_number to_number expected deliver_number abort_number collect_number start_from start_to deliver_to abort_by collect_by same_message counts_ok in_table purse_ok message_ok archive_ok once_ok clear_ok table_ok decoded number_at acting step claims effect_by
worked =
    record {
      taken_balances = refl;
      taken-messages = refl;
      taken-arrived = refl;
      refused-answer = refl;
      refused-arrived = refl;
      collected_by = refl;
      apart_matched = refl;
      apart_claims = refl;
      forged_obeys = refl;
      forged_unpaid = refl;
      listing_paid = refl;
      listing_arrived = refl;
      listing_matched = refl;
      listing_other = refl;
      eight_answers = refl;
      eight_balances = refl;
      eight_paid = refl;
      crossed_logs = refl;
      crossed_balances = refl;
      crossed_arrived = refl;
      crossed_matched = refl;
      crossed_claims = refl;
      crossed_archived = refl;
    }
