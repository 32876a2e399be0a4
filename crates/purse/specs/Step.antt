-- The steps of one purse: for each, its tests in the documents' order with their numbers, and what it does where none applies.
use Rattle.std.specs.Prelude.{ℕ, ◌+◌, ◌-◌, Bool, ◌&&◌, ◌||◌, not, cond, List, [], ◌∷◌, ◌++◌, get_or, set, drop, ltb, leb, eqb}
use Rattle.purse.specs.declared.Name.{Name}
use Rattle.purse.specs.declared.Seq.{Seq}
use Rattle.purse.specs.declared.Amount.{Amount}
use Rattle.purse.specs.declared.Details.{Details}
use Rattle.purse.specs.declared.Message.{Message}
use Rattle.purse.specs.declared.Purse.{Purse}
use Rattle.purse.specs.declared.CardAnswer.{CardAnswer}
use Rattle.purse.specs.Tests.{Test, ◌⇒◌, first}
use Rattle.purse.specs.Details.{last_name, request, value, acknowledge, zero_details, zero_message, same_details, legal}
use Rattle.purse.specs.Purse.{idle, epr, epv, epa, ceiling, last_seq, log_places, well_formed}

-- answer n: nothing changed, nothing handed out
abbrev pub refused_by : ℕ → Purse → CardAnswer
refused_by n p = record { answer = n; purse = p; message = zero_message; entry = zero_details }

-- answer 0, with what is handed out
abbrev pub done : Purse → Message → Details → CardAnswer
done p m e = record { answer = 0; purse = p; message = m; entry = e }

-- done where no test applies, else refused by the first that does
abbrev pub unless : ℕ → Purse → CardAnswer → CardAnswer
unless n p a = cond (eqb n 0) a (refused_by n p)

-- the first tests of every step: the record, then the name
abbrev pub own_tests : Purse → Name → List Test
own_tests p own = (not (well_formed own p) ⇒ 2) ∷ (ltb last_name own.0 ⇒ 4) ∷ []

-- "Starts: 2, 3, 4, 6, 7, 8, 9, 10, then 11 or 12"; a card never gives 3
abbrev pub start_tests : Purse → Name → Name → Amount → List Test
start_tests p own other a =
    (not (well_formed own p) ⇒ 2)
    ∷ (ltb last_name own.0 ⇒ 4)
    ∷ (ltb last_name other.0 || eqb other.0 own.0 ⇒ 6)
    ∷ (not (legal a) ⇒ 7)
    ∷ (not (eqb p.status idle) ⇒ 8)
    ∷ (eqb p.next.0 last_seq ⇒ 9)
    ∷ (leb log_places p.logged ⇒ 10)
    ∷ []

unfoldable pub start_number : Purse → Name → Name → Amount → ℕ
start_number p own other a = first (start_tests p own other a)

unfoldable pub from_number : Purse → Name → Name → Amount → ℕ
from_number p own other a = first (start_tests p own other a ++ ((ltb p.balance.0 a.0 ⇒ 11) ∷ []))

unfoldable pub to_number : Purse → Name → Name → Amount → ℕ
to_number p own other a = first (start_tests p own other a ++ ((ltb (ceiling p) (p.balance.0 + a.0) ⇒ 12) ∷ []))

-- the purse busy with a transfer of its own next number, which grows by 1
abbrev pub begun_with : ℕ → Details → Purse → Purse
begun_with s d p =
    record {
      balance = p.balance;
      next = record { 0 = p.next.0 + 1 };
      status = s;
      details = d;
      log = p.log;
      logged = p.logged;
    }

abbrev pub idle_with : Amount → Purse → Purse
idle_with b p =
    record { balance = b; next = p.next; status = idle; details = zero_details; log = p.log; logged = p.logged }

-- "Details take its next sequence number and the given counterparty number"
abbrev pub from_details : Purse → Name → Name → Seq → Amount → Details
from_details p own other s a = record { payer = own; payerseq = p.next; payee = other; payeeseq = s; amount = a }

abbrev pub to_details : Purse → Name → Name → Seq → Amount → Details
to_details p own other s a = record { payer = other; payerseq = s; payee = own; payeeseq = p.next; amount = a }

-- "Start-from: the purse becomes payer"; "status epr"
unfoldable pub start_from : Purse → Name → Name → Seq → Amount → CardAnswer
start_from p own other s a =
    unless (from_number p own other a) p (done (begun_with epr (from_details p own other s a) p) zero_message zero_details)

-- "Start-to: the same as payee; status epv; a request with its details is sent"
unfoldable pub start_to : Purse → Name → Name → Seq → Amount → CardAnswer
start_to p own other s a =
    unless (to_number p own other a) p
    (done
    (begun_with epv (to_details p own other s a) p)
    (record { kind = request; details = to_details p own other s a })
    zero_details)

-- "Request, in epr with equal details", "Value, in epv with equal details", "Acknowledge, in epa with equal details"
unfoldable pub expected : Purse → Message → Bool
expected p m =
    same_details p.details m.details
    && (eqb m.kind request && eqb p.status epr || eqb m.kind value && eqb p.status epv
    || eqb m.kind acknowledge && eqb p.status epa)

-- "Deliver: 2, 3, 4, 5, 13"; a card never gives 3 or 5
unfoldable pub deliver_number : Purse → Name → Message → ℕ
deliver_number p own m = first (own_tests p own ++ ((not (expected p m) ⇒ 13) ∷ []))

-- "balance falls by the amount, epa, value sent"
abbrev pub paid : Purse → CardAnswer
paid p =
    done
    (record {
      balance = record { 0 = p.balance.0 - p.details.amount.0 };
      next = p.next;
      status = epa;
      details = p.details;
      log = p.log;
      logged = p.logged;
    })
    (record { kind = value; details = p.details })
    zero_details

-- "balance rises, idle, acknowledge sent"
abbrev pub received : Purse → CardAnswer
received p =
    done
    (idle_with (record { 0 = p.balance.0 + p.details.amount.0 }) p)
    (record { kind = acknowledge; details = p.details })
    zero_details

-- "Acknowledge, in epa with equal details: idle"
abbrev pub settled : Purse → CardAnswer
settled p = done (idle_with p.balance p) zero_message zero_details

abbrev pub delivered : Purse → ℕ → CardAnswer
delivered p k = cond (eqb k request) (paid p) (cond (eqb k value) (received p) (settled p))

unfoldable pub deliver_to : Purse → Name → Message → CardAnswer
deliver_to p own m = unless (deliver_number p own m) p (delivered p m.kind)

-- "Abort: 2, 3, 4"
unfoldable pub abort_number : Purse → Name → ℕ
abort_number p own = first (own_tests p own)

-- "epa and epv append their details to the log; then idle"
abbrev pub stopped : Purse → Purse
stopped p =
    record {
      balance = p.balance;
      next = p.next;
      status = idle;
      details = zero_details;
      log = set p.log p.logged p.details;
      logged = p.logged + 1;
    }

-- "From epr nothing is logged. An idle purse stays as it is, answer 0"
abbrev pub aborted : Purse → Purse
aborted p = cond (eqb p.status idle) p (cond (eqb p.status epr) (idle_with p.balance p) (stopped p))

unfoldable pub abort_by : Purse → Name → CardAnswer
abort_by p own = unless (abort_number p own) p (done (aborted p) zero_message zero_details)

-- "Collect: 2, 3, 4, 14, 15"; a card never gives 3 or 15
unfoldable pub collect_number : Purse → Name → ℕ
collect_number p own = first (own_tests p own ++ ((eqb p.logged 0 ⇒ 14) ∷ []))

-- the oldest entry out, the later ones one place down
abbrev pub moved_down : List Details → List Details
moved_down l = drop 1 l ++ (zero_details ∷ [])

-- "the purse's oldest log entry leaves it"
abbrev pub taken : Purse → Purse
taken p =
    record {
      balance = p.balance;
      next = p.next;
      status = p.status;
      details = p.details;
      log = moved_down p.log;
      logged = p.logged - 1;
    }

unfoldable pub collect_by : Purse → Name → CardAnswer
collect_by p own = unless (collect_number p own) p (done (taken p) zero_message (get_or p.log 0 zero_details))

-- 8, then 12: a purse whose balance is to rise by an amount must be idle and have room for it
abbrev pub raise_tests : Purse → Amount → List Test
raise_tests p a =
    (not (eqb p.status idle) ⇒ 8)
    ∷ (ltb (ceiling p) (p.balance.0 + a.0) ⇒ 12)
    ∷ []

-- the balance higher by an amount
abbrev pub raised : Amount → Purse → Purse
raised a p =
    record {
      balance = record { 0 = p.balance.0 + a.0 };
      next = p.next;
      status = p.status;
      details = p.details;
      log = p.log;
      logged = p.logged;
    }

-- "load 2, 3, 4, 7, 8, 12" (02, A5); a card never gives 3
unfoldable pub load_number : Purse → Name → Amount → ℕ
load_number p own a = first (own_tests p own ++ ((not (legal a) ⇒ 7) ∷ raise_tests p a))

-- "Kind 8 loads an idle purse with an amount"
unfoldable pub load_by : Purse → Name → Amount → CardAnswer
load_by p own a = unless (load_number p own a) p (done (raised a p) zero_message zero_details)
