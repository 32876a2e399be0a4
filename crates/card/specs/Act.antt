-- A card's step behind the test of its record: what it makes of the record's head (`turn_by`), and the record put together of that head and
-- the log (`answered_by`). That the card's step is the record's test, and then this, is `step_by_act`.
use Rattle.std.specs.Prelude.{List, get_or, set}
use Rattle.purse.specs.declared.Name.{Name}
use Rattle.purse.specs.declared.Details.{Details}
use Rattle.purse.specs.declared.Purse.{Purse}
use Rattle.purse.specs.declared.CardAnswer.{CardAnswer}
use Rattle.purse.specs.declared.CardEvent.{CardEvent}
use Rattle.purse.specs.Details.{zero_details}
use Rattle.purse.specs.Step.{moved_down}
use Rattle.refusals.specs.declared.Head.{Head}
use Rattle.refusals.specs.Heads.{head_of}
use Rattle.turns.specs.declared.LogChange.{LogChange}
use Rattle.turns.specs.declared.LogChange.TheVariants.{Nothing, Append, OldestOut}
use Rattle.turns.specs.declared.Turned.{Turned}
use Rattle.turns.specs.Turns.{turn_by}

-- the log of the record p after a step: it stays; the running details are appended; the oldest entry leaves it
abbrev pub log_after : Purse → LogChange → List Details
log_after p Nothing = p.log
log_after p Append = set p.log p.logged p.details
log_after p OldestOut = moved_down p.log

-- the record p after a step: its next head, and its log
abbrev pub record_after : Purse → Head → LogChange → Purse
record_after p h l =
    record {
      balance = h.balance;
      next = h.next;
      status = h.status;
      details = h.details;
      log = log_after p l;
      logged = h.logged;
    }

-- the oldest entry, where it leaves the log
abbrev pub handed_out : Purse → LogChange → Details
handed_out p Nothing = zero_details
handed_out p Append = zero_details
handed_out p OldestOut = get_or p.log 0 zero_details

-- what the card answers
abbrev pub answered_by : Purse → Turned → CardAnswer
answered_by p t =
    record {
      answer = t.answer;
      purse = record_after p t.head t.log;
      message = t.message;
      entry = handed_out p t.log;
    }

-- the step of the record p behind its test
abbrev pub act_by : Purse → Name → CardEvent → CardAnswer
act_by p own e = answered_by p (turn_by (head_of p) own e)
