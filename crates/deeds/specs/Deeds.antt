-- What an event writes in a lent table and desk, place by place, so that nothing else is moved: its record, the number of purses, the place
-- behind the messages and the place behind the entries, with both counts; a loss moves the later messages down. What an event leaves as it was is written as
-- it stood. That this is the bench's step is `deed_acts` in proofs/.
use Rattle.std.specs.Prelude.{ℕ, ◌+◌, true, false, cond, get_or, set, ltb, eqb}
use Rattle.purse.specs.declared.Message.{Message}
use Rattle.purse.specs.declared.Purse.{Purse}
use Rattle.purse.specs.Details.{zero_message}
use Rattle.refusals.specs.Heads.{head_of}
use Rattle.turns.specs.declared.Turned.{Turned}
use Rattle.card.specs.Act.{record_after}
use Rattle.desk.specs.declared.Entry.{Entry}
use Rattle.desk.specs.declared.Desk.{Desk}
use Rattle.desk.specs.Desk.{places, zero_entry, taken_out}
use Rattle.rules.specs.declared.Event.{Event}
use Rattle.asks.specs.declared.Seen.{Seen}
use Rattle.asks.specs.declared.Asked.{Asked}
use Rattle.acts.specs.declared.Change.{Change}
use Rattle.acts.specs.declared.Change.TheVariants.{Nothing, Send, Lose, Store, Issue}
use Rattle.asks.specs.Asks.{within, asked}
use Rattle.acts.specs.Acts.{told_at, change_of, one_more, with_ether}
use Rattle.deeds.specs.declared.Deed.{Deed}

-- the record is q, and the desk stays
unfoldable pub desk_stays : ℕ → Purse → Seen → Message → Entry → Deed
desk_stays n q s last entry =
    record {
      answer = n;
      purse = q;
      purses = s.purses;
      message = last;
      messages = s.messages;
      entry = entry;
      entries = s.entries;
      loses = false;
      place = 0;
    }

-- a change, q being the record's next state
unfoldable pub doing : Purse → Seen → Message → Entry → Change → Deed
doing q s last entry Nothing = desk_stays 0 q s last entry
doing q s last entry (Send m) =
    cond (ltb s.messages places)
    (record {
      answer = 0;
      purse = q;
      purses = s.purses;
      message = m;
      messages = s.messages + 1;
      entry = entry;
      entries = s.entries;
      loses = false;
      place = 0;
    })
    (desk_stays 1 q s last entry)
doing q s last entry (Lose i) =
    record {
      answer = 0;
      purse = q;
      purses = s.purses;
      message = last;
      messages = s.messages;
      entry = entry;
      entries = s.entries;
      loses = true;
      place = i;
    }
doing q s last entry (Store e) =
    cond (ltb s.entries places)
    (record {
      answer = 0;
      purse = q;
      purses = s.purses;
      message = last;
      messages = s.messages;
      entry = e;
      entries = s.entries + 1;
      loses = false;
      place = 0;
    })
    (desk_stays 0 q s last entry)
doing q s last entry Issue =
    record {
      answer = 0;
      purse = q;
      purses = one_more s.purses;
      message = last;
      messages = s.messages;
      entry = entry;
      entries = s.entries;
      loses = false;
      place = 0;
    }

-- what is asked for, told to the card at the head of its record p
unfoldable pub deed_of : Purse → Seen → Message → Entry → Asked → Turned → Deed
deed_of p s last entry a t =
    cond (eqb t.answer 0) (doing (record_after p t.head t.log) s last entry (change_of p a t.message))
    (desk_stays t.answer p s last entry)

-- an event at its record p, by what is seen of it
unfoldable pub deed_by : Purse → Seen → Message → Entry → Event → Deed
deed_by p s last entry e = deed_of p s last entry (asked s e) (told_at (head_of p) (asked s e))

-- an event at its record p and the desk
unfoldable pub deed_at : Purse → Seen → Desk → Event → Deed
deed_at p s d e =
    deed_by p s
    (get_or d.ether.places (within d.ether.count) zero_message)
    (get_or d.archive.places (within d.archive.count) zero_entry)
    e

-- the desk with a deed's number of purses, and its message and entry behind those that stood
abbrev pub written_on : Desk → Deed → Desk
written_on d c =
    record {
      purses = c.purses;
      ether = record { places = set d.ether.places (within d.ether.count) c.message; count = c.messages };
      archive = record { places = set d.archive.places (within d.archive.count) c.entry; count = c.entries };
    }

-- and, of a loss, without that message
unfoldable pub desk_after : Desk → Deed → Desk
desk_after d c = cond c.loses (with_ether (written_on d c) (taken_out (written_on d c).ether c.place).ether) (written_on d c)
