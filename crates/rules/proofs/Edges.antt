-- "At the edges": the lines of document 01 that are proved of the rules, one table under one statement, by computation.
-- Assumes nothing.
use Prim.Native.Nat.{ℕ, zero, suc}
use mathlib.Core.Path.{◌≡◌, refl}
use mathlib.Core.List.{List, [], ◌∷◌, map}
use Rattle.bigendian.specs.Bytes.{number_at}
use Rattle.purse.specs.declared.Message.{Message}
use Rattle.purse.specs.Lists.{padded}
use Rattle.purse.specs.Details.{zero_details, same_details, same_message, legal, named, as_payer, as_payee, entry_ok, absent}
use Rattle.purse.specs.Purse.{log_places, idle_ok, busy_ok, place_ok, log_ok, well_formed}
use Rattle.purse.specs.Step.{start_number, from_number, to_number, expected, deliver_number, abort_number, collect_number, start_from, start_to, deliver_to, abort_by, collect_by}
use Rattle.desk.specs.declared.Entry.{Entry}
use Rattle.rules.specs.Bench.{Bench, called}
use Rattle.rules.specs.Table.{counts_ok, in_table, purse_ok, message_ok, archive_ok, once_ok, clear_ok, table_ok}
use Rattle.rules.specs.Events.{decoded}
use Rattle.rules.specs.Steps.{acting, step}
use Rattle.rules.specs.Run.{opened, run}
use Rattle.rules.proofs.Samples.{event, from, to, delivery, payment, pair}

-- what stands, what happens, and the number that document 01 gives
pub record Case : Type 0 where
  pub bench : Bench
  pub event : List ℕ
  pub number : ℕ

abbrev pub at : Bench → List ℕ → ℕ → Case
at b e n = record { bench = b; event = e; number = n }

-- purse 0 has paid 300 to purse 1, and the value has arrived
abbrev arrived : Bench
arrived = run (opened (1000 ∷ 200 ∷ [])) (from 0 1 300 ∷ to 1 0 300 ∷ delivery 0 0 ∷ delivery 1 1 ∷ [])

abbrev pub cases : List Case
cases =
    -- amount 0, 1, 5,000,001
    at (pair 300 1 0) (from 0 1 0) 7
    ∷ at (pair 300 1 0) (from 0 1 1) 0
    ∷ at (pair 300 1 0) (from 0 1 5000001) 7
    -- balance 300, start-from 300, 301
    ∷ at (pair 300 1 0) (from 0 1 300) 0
    ∷ at (pair 300 1 0) (from 0 1 301) 11
    -- payee balance 4,999,700, start-to 300, 301
    ∷ at (pair 4999700 1 0) (to 0 1 300) 0
    ∷ at (pair 4999700 1 0) (to 0 1 301) 12
    -- next 4,294,967,294 and 4,294,967,295
    ∷ at (pair 300 4294967294 0) (from 0 1 1) 0
    ∷ at (pair 300 4294967295 0) (from 0 1 1) 9
    -- 7 and 8 log entries
    ∷ at (pair 300 8 7) (from 0 1 1) 0
    ∷ at (pair 300 9 8) (from 0 1 1) 10
    -- a start with itself and amount 0
    ∷ at (pair 300 1 0) (from 0 0 0) 6
    -- the same value delivered again
    ∷ at arrived (delivery 1 1) 13
    ∷ []

pub edges : map (λ (c : Case). (step c.bench c.event).answer) cases ≡ map (λ (c : Case). c.number) cases
unfolding same_details legal named as_payer as_payee entry_ok absent idle_ok busy_ok place_ok log_ok well_formed start_number from_number to_number expected deliver_number abort_number collect_number start_from start_to deliver_to abort_by collect_by same_message counts_ok in_table purse_ok message_ok archive_ok once_ok clear_ok table_ok decoded number_at acting step
edges = refl

-- the lines that document 01 has run and compared: here computed too, with an archive that is full
abbrev requests : ℕ → List Message
requests zero = []
requests (suc n) = record { kind = 1; details = payment (suc n) 1 5 } ∷ requests n

abbrev entries : ℕ → List Entry
entries zero = []
entries (suc n) = record { by = called 0; details = payment (suc n) 1 5 } ∷ entries n

-- 256 messages and 256 archive entries stand, and purse 0 has logged one more
abbrev crowd : Bench
crowd =
    record {
      purses =
          record {
            balance = record { 0 = 0 };
            next = record { 0 = 300 };
            status = 0;
            details = zero_details;
            log = padded log_places zero_details (payment 257 1 5 ∷ []);
            logged = 1;
          }
          ∷ record {
            balance = record { 0 = 0 };
            next = record { 0 = 2 };
            status = 0;
            details = zero_details;
            log = padded log_places zero_details [];
            logged = 0;
          }
          ∷ [];
      messages = requests 256;
      archive = entries 256;
    }

abbrev pub further : List Case
further =
    -- 256 messages, start-to
    at crowd (to 1 0 5) 1
    -- place equal to the message count
    ∷ at arrived (delivery 1 3) 5
    -- event of 11 bytes
    ∷ at (pair 300 1 0) (1 ∷ 0 ∷ 1 ∷ 0 ∷ 0 ∷ 0 ∷ 0 ∷ 1 ∷ 0 ∷ 0 ∷ 1 ∷ []) 3
    -- archive full
    ∷ at crowd (event 6 0 0 0 0) 15
    ∷ []

pub further_edges : map (λ (c : Case). (step c.bench c.event).answer) further ≡ map (λ (c : Case). c.number) further
unfolding same_details legal named as_payer as_payee entry_ok absent idle_ok busy_ok place_ok log_ok well_formed start_number from_number to_number expected deliver_number abort_number collect_number start_from start_to deliver_to abort_by collect_by same_message counts_ok in_table purse_ok message_ok archive_ok once_ok clear_ok table_ok decoded number_at acting step
further_edges = refl
