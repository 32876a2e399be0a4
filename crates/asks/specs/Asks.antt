-- What an event asks for, at a table that is well formed: the one record that it means, the message that it delivers, and the tests that
-- read the desk, in the documents' order for each kind (`asked`). Those that read one purse alone are the card's, behind them.
use Rattle.std.specs.Prelude.{ℕ, Bool, not, cond, List, [], ◌∷◌, get_or, ltb, leb, eqb, Result, Ok, Err}
use Rattle.purse.specs.declared.Name.{Name}
use Rattle.purse.specs.declared.Amount.{Amount}
use Rattle.purse.specs.declared.Message.{Message}
use Rattle.purse.specs.declared.CardEvent.{CardEvent}
use Rattle.purse.specs.declared.CardEvent.TheVariants as card
use Rattle.purse.specs.Tests.{Test, ◌⇒◌, first}
use Rattle.purse.specs.Details.{last_name, zero_message}
use Rattle.purse.specs.Purse.{ceiling}
use Rattle.purse.specs.declared.refusal.Refusal.{Refusal}
use Rattle.purse.specs.Refusals.{number_of}
use Rattle.desk.specs.declared.Desk.{Desk}
use Rattle.desk.specs.Desk.{places}
use Rattle.rules.specs.declared.Event.{Event}
use Rattle.rules.specs.declared.Event.TheVariants.{Malformed, StartFrom, StartTo, Deliver, Abort, Lose, Collect, Issue, Load}
use Rattle.rules.specs.Bench.{called, opened_at}
use Rattle.rules.specs.Steps.{class_ok}
use Rattle.asks.specs.declared.Seen.{Seen}
use Rattle.asks.specs.declared.Asked.{Asked}
use Rattle.asks.specs.declared.Asked.TheVariants as asks

-- the place of a name in the table of 32; 0 for a name above 31
abbrev pub place_in : Name → ℕ
place_in n = cond (leb n.0 last_name) n.0 0

-- the record that an event means, where that many purses stand: the one that it names, or the next free one; 0 where it means none
unfoldable pub place_of : ℕ → Event → ℕ
place_of purses Malformed = 0
place_of purses (StartFrom own other s a) = place_in own
place_of purses (StartTo own other s a) = place_in own
place_of purses (Deliver own i) = place_in own
place_of purses (Abort own) = place_in own
place_of purses (Lose i) = 0
place_of purses (Collect own) = place_in own
place_of purses (Issue class v) = place_in (called purses)
place_of purses (Load own a) = place_in own

-- the place of the message that an event delivers; past the last place where it delivers none
unfoldable pub delivered_at : Event → ℕ
delivered_at Malformed = places
delivered_at (StartFrom own other s a) = places
delivered_at (StartTo own other s a) = places
delivered_at (Deliver own i) = i
delivered_at (Abort own) = places
delivered_at (Lose i) = places
delivered_at (Collect own) = places
delivered_at (Issue class v) = places
delivered_at (Load own a) = places

-- the place n, or the last place where n is past all
unfoldable pub within : ℕ → ℕ
within n = cond (ltb n places) n 255

-- the place of the record that an event means, and what its tests read of the desk: m stands at the place within which it delivers
unfoldable pub seen_with : ℕ → ℕ → ℕ → Message → Event → Seen
seen_with purses messages entries m e =
    record {
      place = place_of purses e;
      purses = purses;
      messages = messages;
      entries = entries;
      message = cond (ltb (delivered_at e) places) m zero_message;
    }

-- the same, said of the whole desk (`seen_lent`)
abbrev pub seen_at : Desk → Event → Seen
seen_at d e =
    record {
      place = place_of d.purses e;
      purses = d.purses;
      messages = d.ether.count;
      entries = d.archive.count;
      message = get_or d.ether.places (delivered_at e) zero_message;
    }

-- 4: "no such purse"
abbrev pub no_purse : ℕ → Name → Bool
no_purse purses n = leb purses n.0

-- 5: "no message at that place"
abbrev pub no_message : ℕ → ℕ → Bool
no_message messages i = leb messages i

-- "Starts: 2, 3, 4, 6, ..": 4, and 6 for a counterparty not in the table
abbrev pub start_tests : ℕ → Name → Name → List Test
start_tests purses own other = (no_purse purses own ⇒ 4) ∷ (no_purse purses other ⇒ 6) ∷ []

-- "Deliver: 2, 3, 4, 5, 13"
abbrev pub deliver_tests : ℕ → ℕ → Name → ℕ → List Test
deliver_tests purses messages own i = (no_purse purses own ⇒ 4) ∷ (no_message messages i ⇒ 5) ∷ []

-- "Abort: 2, 3, 4"; "Collect: 2, 3, 4, 14, 15"; "load 2, 3, 4, 7, 8, 12" (02, A5)
abbrev pub purse_tests : ℕ → Name → List Test
purse_tests purses own = (no_purse purses own ⇒ 4) ∷ []

-- "Lose: 2, 3, 5"
abbrev pub lose_tests : ℕ → ℕ → List Test
lose_tests messages i = (no_message messages i ⇒ 5) ∷ []

-- "issue 2, 3, 24 (32 purses stand already), 22, 21" (02, A5)
abbrev pub issue_tests : ℕ → ℕ → Amount → List Test
issue_tests purses class v =
    (leb 32 purses ⇒ 24)
    ∷ (not (class_ok class) ⇒ 22)
    ∷ (ltb (ceiling (opened_at v.0)) v.0 ⇒ 21)
    ∷ []

-- the card is told e, where no test before found a number
unfoldable pub to_tell : ℕ → Name → CardEvent → Asked
to_tell n own e = cond (eqb n 0) (asks.Tell own e) (asks.Refused n)

-- the card is told to collect, likewise; the archive is full with 256 entries
unfoldable pub to_collect : ℕ → Name → ℕ → Asked
to_collect n own entries = cond (eqb n 0) (asks.Collect own (leb places entries)) (asks.Refused n)

-- the message at a place goes, likewise
unfoldable pub to_lose : ℕ → ℕ → Asked
to_lose n i = cond (eqb n 0) (asks.Lose i) (asks.Refused n)

-- a purse is issued, likewise
unfoldable pub to_issue : ℕ → Amount → Asked
to_issue n v = cond (eqb n 0) (asks.Issue v) (asks.Refused n)

-- what an event asks for, by what is seen of the desk
unfoldable pub asked : Seen → Event → Asked
asked s Malformed = asks.Refused 3
asked s (StartFrom own other q a) = to_tell (first (start_tests s.purses own other)) own (card.StartFrom other q a)
asked s (StartTo own other q a) = to_tell (first (start_tests s.purses own other)) own (card.StartTo other q a)
asked s (Deliver own i) = to_tell (first (deliver_tests s.purses s.messages own i)) own (card.Deliver s.message)
asked s (Abort own) = to_tell (first (purse_tests s.purses own)) own card.Abort
asked s (Lose i) = to_lose (first (lose_tests s.messages i)) i
asked s (Collect own) = to_collect (first (purse_tests s.purses own)) own s.entries
asked s (Issue class v) = to_issue (first (issue_tests s.purses class v)) v
asked s (Load own a) = to_tell (first (purse_tests s.purses own)) own (card.Load a)

-- what an event asks for, or the number of why it is refused
abbrev pub answering : Result Asked Refusal → Asked
answering (Ok a) = a
answering (Err why) = asks.Refused (number_of why)
