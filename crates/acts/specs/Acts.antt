-- What an event does, at a table that is well formed: it touches the desk and the one record that it means. What it asks for is told to the
-- card, at the head of the record (`told_at`); then it is settled (`settled`). That this is the bench's step is `step_by_record`.
use Rattle.std.specs.Prelude.{ℕ, ◌+◌, Bool, cond, get_or, set, ltb, eqb}
use Rattle.purse.specs.declared.Name.{Name}
use Rattle.purse.specs.declared.Message.{Message}
use Rattle.purse.specs.declared.Purse.{Purse}
use Rattle.purse.specs.declared.CardEvent.TheVariants as card
use Rattle.purse.specs.Tests.{after}
use Rattle.purse.specs.Details.{zero_details, zero_message}
use Rattle.purse.specs.Purse.{zero_purse, opened_purse}
use Rattle.refusals.specs.declared.Head.{Head}
use Rattle.refusals.specs.Heads.{head_of}
use Rattle.turns.specs.declared.Turned.{Turned}
use Rattle.turns.specs.declared.LogChange.TheVariants as log
use Rattle.turns.specs.Turns.{refused_at, done_at, turn_by}
use Rattle.card.specs.Act.{record_after}
use Rattle.desk.specs.declared.Entry.{Entry}
use Rattle.desk.specs.declared.Ether.{Ether}
use Rattle.desk.specs.declared.Archive.{Archive}
use Rattle.desk.specs.declared.Desk.{Desk}
use Rattle.desk.specs.declared.Held.{Held}
use Rattle.desk.specs.declared.Answered.{Answered}
use Rattle.desk.specs.Desk.{appended, taken_out, stored}
use Rattle.rules.specs.declared.Event.{Event}
use Rattle.asks.specs.declared.Asked.{Asked}
use Rattle.asks.specs.declared.Asked.TheVariants as asks
use Rattle.asks.specs.Asks.{seen_at, asked}
use Rattle.acts.specs.declared.Change.{Change}
use Rattle.acts.specs.declared.Change.TheVariants as change

-- what an event does at the record that it means: the answer, and the record and the desk as they then stand
pub record Acted : Type 0 where
  pub answer : ℕ
  pub purse : Purse
  pub desk : Desk

-- 15 where the archive is full, after the card's 14
abbrev pub or_full : Bool → Turned → Turned
or_full full t = record { head = t.head; message = t.message; answer = after t.answer full 15; log = t.log }

-- the card is told, at the head of its record; an issued purse "starts as an opened purse does" (02, A5), and its record was all zero, so its
-- log is empty
unfoldable pub told_at : Head → Asked → Turned
told_at h (asks.Refused n) = refused_at n h
told_at h (asks.Lose i) = refused_at 0 h
told_at h (asks.Tell own e) = turn_by h own e
told_at h (asks.Collect own full) = or_full full (turn_by h own card.Collect)
told_at h (asks.Issue v) = done_at (head_of (opened_purse v)) log.Nothing zero_message

-- the card's message is to be sent; kind 0 is no message: nothing is sent
unfoldable pub to_send : Message → Change
to_send m = cond (eqb m.kind 0) change.Nothing (change.Send m)

-- the oldest log entry of the record p, as the archive keeps it
abbrev pub entry_of : Purse → Name → Entry
entry_of p own = record { by = own; details = get_or p.log 0 zero_details }

-- what is changed at the desk, p being the record before the step and m the message that the card handed out; the entry that leaves the
-- log "is appended to the archive"
unfoldable pub change_of : Purse → Asked → Message → Change
change_of p (asks.Refused n) m = change.Nothing
change_of p (asks.Lose i) m = change.Lose i
change_of p (asks.Tell own e) m = to_send m
change_of p (asks.Collect own full) m = change.Store (entry_of p own)
change_of p (asks.Issue v) m = change.Issue

-- one purse more, of at most 32
unfoldable pub one_more : ℕ → ℕ
one_more n = cond (ltb n 32) (n + 1) n

abbrev pub with_purses : Desk → ℕ → Desk
with_purses d n = record { purses = n; ether = d.ether; archive = d.archive }

abbrev pub with_ether : Desk → Ether → Desk
with_ether d e = record { purses = d.purses; ether = e; archive = d.archive }

abbrev pub with_archive : Desk → Archive → Desk
with_archive d a = record { purses = d.purses; ether = d.ether; archive = a }

-- a change at the desk, q being the record's next state. "Sending appends at the end of the messages"; where it is lost "the answer is 1".
-- "Lose: that message goes". Issue: the record behind the others is now a purse of the table.
unfoldable pub carried_out : Purse → Desk → Change → Acted
carried_out q d change.Nothing = record { answer = 0; purse = q; desk = d }
carried_out q d (change.Send m) =
    record {
      answer = cond (appended d.ether m).lost 1 0;
      purse = q;
      desk = with_ether d (appended d.ether m).ether;
    }
carried_out q d (change.Lose i) = record { answer = 0; purse = q; desk = with_ether d (taken_out d.ether i).ether }
carried_out q d (change.Store e) = record { answer = 0; purse = q; desk = with_archive d (stored d.archive e) }
carried_out q d change.Issue = record { answer = 0; purse = q; desk = with_purses d (one_more d.purses) }

-- "Answers from 2 up change nothing anywhere"
abbrev pub refused_on : ℕ → Purse → Desk → Acted
refused_on n p d = record { answer = n; purse = p; desk = d }

-- what the card did is settled where its number is 0: the record is put together, and the change made
unfoldable pub settled : Purse → Desk → Turned → Change → Acted
settled p d t c =
    cond (eqb t.answer 0) (carried_out (record_after p t.head t.log) d c) (refused_on t.answer p d)

-- what is asked for, told and settled
abbrev pub answered_on : Purse → Desk → Asked → Acted
answered_on p d a = settled p d (told_at (head_of p) a) (change_of p a (told_at (head_of p) a).message)

-- the step of an event at its record p and the desk
unfoldable pub act_on : Purse → Desk → Event → Acted
act_on p d e = answered_on p d (asked (seen_at d e) e)

-- the record put back at its place of the table, the desk beside it
abbrev pub put_back : Held → ℕ → Acted → Answered
put_back h i a =
    record { answer = a.answer; held = record { table = set h.table i a.purse; desk = a.desk } }

-- an event at a table that is well formed: the one record that it is seen to mean is looked up, and put back
unfoldable pub by_record : Held → Event → Answered
by_record h e = put_back h (seen_at h.desk e).place (act_on (get_or h.table (seen_at h.desk e).place zero_purse) h.desk e)
