-- Tables that break one rule each, beside one that obeys them all, by computation: every rule of "A table is well formed when all of these
-- hold" is felt. The answer is 2 even to an event of no bytes.
-- Assumes nothing.
use Prim.Native.Nat.{ℕ, zero, suc}
use mathlib.Core.Path.{◌≡◌, refl}
use mathlib.Core.List.{List, [], ◌∷◌, map}
use lib.ListN.{length, replicate}
use Rattle.bigendian.specs.Bytes.{number_at}
use Rattle.purse.specs.declared.Details.{Details}
use Rattle.purse.specs.declared.Message.{Message}
use Rattle.purse.specs.declared.Purse.{Purse}
use Rattle.purse.specs.Lists.{padded}
use Rattle.purse.specs.Details.{request, value, acknowledge, zero_details, zero_message, same_details, same_message, legal, named, as_payer, as_payee, entry_ok, absent}
use Rattle.purse.specs.Purse.{idle, epr, epv, epa, log_places, zero_purse, idle_ok, busy_ok, place_ok, log_ok, well_formed}
use Rattle.desk.specs.declared.Entry.{Entry}
use Rattle.desk.specs.declared.Held.{Held}
use Rattle.desk.specs.Desk.{zero_entry, same_entry}
use Rattle.rules.specs.Bench.{Bench, called, opened_at}
use Rattle.rules.specs.Table.{counts_ok, in_table, purse_ok, message_ok, archive_ok, once_ok, clear_ok, table_ok}
use Rattle.rules.specs.Events.{decoded}
use Rattle.rules.specs.Steps.{acting, step}
use Rattle.rules.specs.Laid.{is_zero_purse, is_zero_message, is_zero_entry, held_ok, held_step}
use Rattle.rules.proofs.Samples.{payment}

-- a purse with next number 20
abbrev purse : ℕ → ℕ → Details → List Details → Purse
purse balance status running log =
    record {
      balance = record { 0 = balance };
      next = record { 0 = 20 };
      status = status;
      details = running;
      log = padded log_places zero_details log;
      logged = length log;
    }

abbrev with_next : ℕ → Purse → Purse
with_next n p =
    record {
      balance = p.balance;
      next = record { 0 = n };
      status = p.status;
      details = p.details;
      log = p.log;
      logged = p.logged;
    }

abbrev with_logged : ℕ → Purse → Purse
with_logged n p =
    record {
      balance = p.balance;
      next = p.next;
      status = p.status;
      details = p.details;
      log = p.log;
      logged = n;
    }

abbrev quiet : Purse
quiet = purse 1000 idle zero_details []

-- a payment of 5 by purse p, number s, to purse o, number t
abbrev between : ℕ → ℕ → ℕ → ℕ → Details
between p s o t =
    record {
      payer = called p;
      payerseq = record { 0 = s };
      payee = called o;
      payeeseq = record { 0 = t };
      amount = record { 0 = 5 };
    }

abbrev message : ℕ → Details → Message
message k d = record { kind = k; details = d }

abbrev entry : ℕ → Details → Entry
entry n d = record { by = called n; details = d }

abbrev bench : List Purse → List Message → List Entry → Bench
bench ps ms es = record { purses = ps; messages = ms; archive = es }

-- purse 0 in that state, beside a quiet purse 1
abbrev state : Purse → Bench
state p = bench (p ∷ quiet ∷ []) [] []

-- those messages, those entries, beside two quiet purses
abbrev ether : List Message → Bench
ether ms = bench (quiet ∷ quiet ∷ []) ms []

abbrev shelf : List Entry → Bench
shelf es = bench (quiet ∷ quiet ∷ []) [] es

-- numbers below n
abbrev numbers : ℕ → List ℕ
numbers zero = []
numbers (suc n) = n ∷ numbers n

-- n requests, n entries of purse 0, no two equal, each by the rules: the counterparty's number is any
abbrev requests : ℕ → List Message
requests n = map (λ (i : ℕ). message request (payment i 1 5)) (numbers n)

abbrev logged : ℕ → List Entry
logged n = map (λ (i : ℕ). entry 0 (payment 1 i 5)) (numbers n)

-- eight entries that a log may hold
abbrev eight : List Details
eight = map (λ (i : ℕ). payment 1 i 5) (numbers 8)

-- each of these obeys the rules: a payer in epr with its request, a payee in epv with its value, one payment logged and archived by both
abbrev sound : List Bench
sound =
    bench
    (purse 1000 epr (payment 1 1 300) (payment 2 2 5 ∷ []) ∷ purse 1000 epv (payment 3 3 300) (payment 2 2 5 ∷ []) ∷ [])
    (message request (payment 1 1 300) ∷ message value (payment 3 3 300) ∷ message request (payment 3 3 300) ∷ [])
    (entry 0 (payment 4 4 5) ∷ entry 1 (payment 4 4 5) ∷ [])
    ∷ state (purse 300 epr (payment 1 1 300) (payment 2 2 5 ∷ []))
    ∷ state (purse 4999700 epv (between 1 1 0 1) [])
    ∷ state (purse 0 epa (payment 1 1 300) [])
    ∷ state (purse 1000 idle zero_details eight)
    ∷ []

abbrev broken : List Bench
broken =
    -- "1 to 32 purses", "at most 256 messages and 256 archive entries"
    bench [] [] []
    ∷ bench (replicate 33 (opened_at 0)) [] []
    ∷ ether (requests 257)
    ∷ shelf (logged 257)
    -- "every ceiling kept", "each status 0 to 3", "each message kind 1 to 3", "each purse's next number at least 1"
    ∷ state (purse 5000001 idle zero_details [])
    ∷ state (purse 1000 idle zero_details (payment 1 1 5000001 ∷ []))
    ∷ state (with_logged 9 (purse 1000 idle zero_details eight))
    ∷ state (purse 1000 4 (payment 1 1 5) [])
    ∷ ether (message 0 (payment 1 1 5) ∷ [])
    ∷ ether (message 4 (payment 1 1 5) ∷ [])
    ∷ state (with_next 0 quiet)
    -- "name two different purses of the table and a legal amount"
    ∷ state (purse 1000 epr (between 0 1 2 1) [])
    ∷ state (purse 1000 idle zero_details (between 0 1 2 1 ∷ []))
    ∷ ether (message request (between 0 1 2 1) ∷ [])
    ∷ shelf (entry 0 (between 0 1 2 1) ∷ [])
    ∷ ether (message request (between 1 1 1 1) ∷ [])
    ∷ state (purse 1000 epr (payment 1 1 0) [])
    -- "A purse in epr or epa is the payer of its details, in epv the payee"
    ∷ state (purse 1000 epr (between 1 1 0 1) [])
    ∷ state (purse 1000 epv (payment 1 1 5) [])
    ∷ state (purse 1000 epa (between 1 1 0 1) [])
    -- "A log entry names its own purse as payer or payee; an archive entry gives the purse that logged it, likewise"
    ∷ bench (purse 1000 idle zero_details (between 1 1 2 1 ∷ []) ∷ quiet ∷ quiet ∷ []) [] []
    ∷ bench (quiet ∷ quiet ∷ quiet ∷ []) [] (entry 2 (payment 1 1 5) ∷ [])
    -- "the logging purse's own sequence number is at least 1 and below its next one"; the numbers of messages
    ∷ state (purse 1000 epr (payment 20 1 5) [])
    ∷ state (purse 1000 idle zero_details (payment 0 1 5 ∷ []))
    ∷ shelf (entry 0 (payment 20 1 5) ∷ [])
    ∷ ether (message request (payment 1 20 5) ∷ [])
    ∷ ether (message value (payment 20 1 5) ∷ [])
    ∷ ether (message acknowledge (payment 0 1 5) ∷ [])
    -- "A busy purse has at most 7 log entries. In epr the amount is at most the balance; in epv balance plus amount is at most 5,000,000"
    ∷ state
    (purse 1000 epr (payment 9 1 5)
    (payment 1 1 5 ∷ payment 2 1 5 ∷ payment 3 1 5 ∷ payment 4 1 5 ∷ payment 5 1 5 ∷ payment 6 1 5 ∷ payment 7 1 5
    ∷ payment 8 1 5 ∷ []))
    ∷ state (purse 299 epr (payment 1 1 300) [])
    ∷ state (purse 4999996 epv (between 1 1 0 1) [])
    -- "No purse has the same details twice among its running details, its log and its archive entries"
    ∷ state (purse 1000 epr (payment 1 1 5) (payment 1 1 5 ∷ []))
    ∷ state (purse 1000 idle zero_details (payment 1 1 5 ∷ payment 1 1 5 ∷ []))
    ∷ bench (purse 1000 idle zero_details (payment 1 1 5 ∷ []) ∷ quiet ∷ []) [] (entry 0 (payment 1 1 5) ∷ [])
    ∷ bench (purse 1000 epa (payment 1 1 5) [] ∷ quiet ∷ []) [] (entry 0 (payment 1 1 5) ∷ [])
    ∷ shelf (entry 0 (payment 1 1 5) ∷ entry 0 (payment 1 1 5) ∷ [])
    -- "No two messages are equal"
    ∷ ether (message request (payment 1 1 5) ∷ message request (payment 1 1 5) ∷ [])
    -- "No value or acknowledge stands for the details of a payer in epr, no acknowledge for those of a payee in epv"
    ∷ bench (purse 1000 epr (payment 1 1 5) [] ∷ quiet ∷ []) (message value (payment 1 1 5) ∷ []) []
    ∷ bench (purse 1000 epr (payment 1 1 5) [] ∷ quiet ∷ []) (message acknowledge (payment 1 1 5) ∷ []) []
    ∷ bench (quiet ∷ purse 1000 epv (payment 1 1 5) [] ∷ []) (message acknowledge (payment 1 1 5) ∷ []) []
    -- "Everything unused is zero, an idle purse's details too"
    ∷ state (purse 1000 idle (payment 1 1 5) [])
    ∷ state (with_logged 0 (purse 1000 idle zero_details (payment 1 1 5 ∷ [])))
    ∷ []

-- the lent table and the desk: "lent table of 32 records", "Everything unused is zero", and counts above the places
abbrev lent : List Purse → ℕ → List Message → ℕ → List Entry → ℕ → Held
lent ps p ms m es e =
    record {
      table = ps;
      desk = record { purses = p; ether = record { places = ms; count = m }; archive = record { places = es; count = e } };
    }

abbrev held : List Purse → List Message → List Entry → Held
held ps ms es = lent ps 2 ms 0 es 0

abbrev table : List Purse
table = quiet ∷ quiet ∷ replicate 30 zero_purse

abbrev messages : List Message
messages = replicate 256 zero_message

abbrev entries : List Entry
entries = replicate 256 zero_entry

-- as many purses, messages and entries as there are places; that it obeys the rules is `full_obeys` of crate image
abbrev pub full : Held
full = lent (replicate 32 quiet) 32 (requests 256) 256 (logged 256) 256

abbrev held_sound : List Held
held_sound = held table messages entries ∷ []

abbrev held_broken : List Held
held_broken =
    held (quiet ∷ quiet ∷ replicate 29 zero_purse) messages entries
    ∷ held (quiet ∷ quiet ∷ replicate 31 zero_purse) messages entries
    ∷ held (quiet ∷ quiet ∷ opened_at 0 ∷ replicate 29 zero_purse) messages entries
    ∷ held table (message 1 zero_details ∷ replicate 255 zero_message) entries
    ∷ held table messages (entry 1 zero_details ∷ replicate 255 zero_entry)
    ∷ lent (replicate 32 quiet) 33 (requests 256) 256 (logged 256) 256
    ∷ lent (replicate 32 quiet) 32 (requests 256) 257 (logged 256) 256
    ∷ lent (replicate 32 quiet) 32 (requests 256) 256 (logged 256) 257
    ∷ []

abbrev answer : Bench → ℕ
answer b = (step b []).answer

abbrev held_answer : Held → ℕ
held_answer h = (held_step h []).answer

pub record Felt : Type 0 where
  pub obey : map answer sound ≡ replicate (length sound) 3
  pub break : map answer broken ≡ replicate (length broken) 2
  pub held_obey : map held_answer held_sound ≡ replicate (length held_sound) 3
  pub held_break : map held_answer held_broken ≡ replicate (length held_broken) 2

pub felt : Felt
unfolding same_details legal named as_payer as_payee entry_ok absent idle_ok busy_ok place_ok log_ok well_formed same_message same_entry counts_ok in_table purse_ok message_ok archive_ok once_ok clear_ok table_ok decoded number_at acting step is_zero_purse is_zero_message is_zero_entry held_ok held_step
felt = record { obey = refl; break = refl; held_obey = refl; held_break = refl }
