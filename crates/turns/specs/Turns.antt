-- What a card's step behind the test of its record makes of the record's head, each step as in purse/specs/Step; the log is not read.
use Rattle.std.specs.Prelude.{ℕ, ◌+◌, ◌-◌, cond, eqb, Result, Ok, Err}
use Rattle.purse.specs.declared.Name.{Name}
use Rattle.purse.specs.declared.Seq.{Seq}
use Rattle.purse.specs.declared.Amount.{Amount}
use Rattle.purse.specs.declared.Details.{Details}
use Rattle.purse.specs.declared.Message.{Message}
use Rattle.purse.specs.declared.CardEvent.{CardEvent}
use Rattle.purse.specs.declared.CardEvent.TheVariants.{StartFrom, StartTo, Deliver, Abort, Collect, Load}
use Rattle.purse.specs.Details.{request, value, acknowledge, zero_details, zero_message}
use Rattle.purse.specs.Purse.{idle, epr, epv, epa}
use Rattle.purse.specs.declared.refusal.Refusal.{Refusal}
use Rattle.purse.specs.Refusals.{number_of}
use Rattle.refusals.specs.declared.Head.{Head}
use Rattle.refusals.specs.Numbers.{from_number, to_number, deliver_number, abort_number, collect_number, load_number}
use Rattle.turns.specs.declared.LogChange.{LogChange}
use Rattle.turns.specs.declared.LogChange.TheVariants.{Nothing, Append, OldestOut}
use Rattle.turns.specs.declared.Turned.{Turned}

-- answer n: nothing changed, nothing sent
abbrev pub refused_at : ℕ → Head → Turned
refused_at n h = record { head = h; message = zero_message; answer = n; log = Nothing }

-- answer 0, with what becomes of the log, and the message sent
abbrev pub done_at : Head → LogChange → Message → Turned
done_at h l m = record { head = h; message = m; answer = 0; log = l }

-- done where no test applies, else refused by the first that does
abbrev pub unless_at : ℕ → Head → Turned → Turned
unless_at n h t = cond (eqb n 0) t (refused_at n h)

-- what a step makes of a head, done or refused
abbrev pub turned : Head → Result Turned Refusal → Turned
turned h (Ok t) = t
turned h (Err why) = refused_at (number_of why) h

-- busy with a transfer of the purse's own next number, which grows by 1
abbrev pub begun_at : ℕ → Details → Head → Head
begun_at s d h =
    record {
      balance = h.balance;
      next = record { 0 = h.next.0 + 1 };
      details = d;
      status = s;
      logged = h.logged;
      most = h.most;
    }

abbrev pub idle_at : Amount → Head → Head
idle_at b h =
    record { balance = b; next = h.next; details = zero_details; status = idle; logged = h.logged; most = h.most }

-- "Details take its next sequence number and the given counterparty number"
abbrev pub from_details : Head → Name → Name → Seq → Amount → Details
from_details h own other s a = record { payer = own; payerseq = h.next; payee = other; payeeseq = s; amount = a }

abbrev pub to_details : Head → Name → Name → Seq → Amount → Details
to_details h own other s a = record { payer = other; payerseq = s; payee = own; payeeseq = h.next; amount = a }

-- "Start-from: the purse becomes payer"; "status epr"
unfoldable pub turn_from : Head → Name → Name → Seq → Amount → Turned
turn_from h own other s a =
    unless_at (from_number h own other a) h (done_at (begun_at epr (from_details h own other s a) h) Nothing zero_message)

-- "Start-to: the same as payee; status epv; a request with its details is sent"
unfoldable pub turn_to : Head → Name → Name → Seq → Amount → Turned
turn_to h own other s a =
    unless_at (to_number h own other a) h
    (done_at
    (begun_at epv (to_details h own other s a) h)
    Nothing
    (record { kind = request; details = to_details h own other s a }))

-- "balance falls by the amount, epa, value sent"
abbrev pub paid_at : Head → Turned
paid_at h =
    done_at
    (record {
      balance = record { 0 = h.balance.0 - h.details.amount.0 };
      next = h.next;
      details = h.details;
      status = epa;
      logged = h.logged;
      most = h.most;
    })
    Nothing
    (record { kind = value; details = h.details })

-- "balance rises, idle, acknowledge sent"
abbrev pub received_at : Head → Turned
received_at h =
    done_at
    (idle_at (record { 0 = h.balance.0 + h.details.amount.0 }) h)
    Nothing
    (record { kind = acknowledge; details = h.details })

-- "Acknowledge, in epa with equal details: idle"
abbrev pub settled_at : Head → Turned
settled_at h = done_at (idle_at h.balance h) Nothing zero_message

abbrev pub delivered_at : Head → ℕ → Turned
delivered_at h k = cond (eqb k request) (paid_at h) (cond (eqb k value) (received_at h) (settled_at h))

unfoldable pub turn_deliver : Head → Name → Message → Turned
turn_deliver h own m = unless_at (deliver_number h own m) h (delivered_at h m.kind)

-- "epa and epv append their details to the log; then idle"
abbrev pub stopped_at : Head → Turned
stopped_at h =
    done_at
    (record {
      balance = h.balance;
      next = h.next;
      details = zero_details;
      status = idle;
      logged = h.logged + 1;
      most = h.most;
    })
    Append
    zero_message

-- "From epr nothing is logged. An idle purse stays as it is, answer 0"
abbrev pub aborted_at : Head → Turned
aborted_at h =
    cond (eqb h.status idle) (done_at h Nothing zero_message)
    (cond (eqb h.status epr) (done_at (idle_at h.balance h) Nothing zero_message) (stopped_at h))

unfoldable pub turn_abort : Head → Name → Turned
turn_abort h own = unless_at (abort_number h own) h (aborted_at h)

-- "the purse's oldest log entry leaves it"
abbrev pub taken_at : Head → Turned
taken_at h =
    done_at
    (record {
      balance = h.balance;
      next = h.next;
      details = h.details;
      status = h.status;
      logged = h.logged - 1;
      most = h.most;
    })
    OldestOut
    zero_message

unfoldable pub turn_collect : Head → Name → Turned
turn_collect h own = unless_at (collect_number h own) h (taken_at h)

-- the balance higher by an amount
abbrev pub raised_at : Amount → Head → Head
raised_at a h =
    record {
      balance = record { 0 = h.balance.0 + a.0 };
      next = h.next;
      details = h.details;
      status = h.status;
      logged = h.logged;
      most = h.most;
    }

-- "Kind 8 loads an idle purse with an amount"
unfoldable pub turn_load : Head → Name → Amount → Turned
turn_load h own a = unless_at (load_number h own a) h (done_at (raised_at a h) Nothing zero_message)

abbrev pub turn_by : Head → Name → CardEvent → Turned
turn_by h own (StartFrom other s a) = turn_from h own other s a
turn_by h own (StartTo other s a) = turn_to h own other s a
turn_by h own (Deliver m) = turn_deliver h own m
turn_by h own Abort = turn_abort h own
turn_by h own Collect = turn_collect h own
turn_by h own (Load a) = turn_load h own a
