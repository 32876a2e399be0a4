-- The step of each kind of event. Its tests stand in the order of the documents' list for that kind; the tests that read one purse
-- alone are the card's, in the same order behind them.
use Rattle.std.specs.Prelude.{ℕ, Bool, not, cond, List, [], ◌∷◌, ◌++◌, length, set, ltb, leb, eqb}
use Rattle.purse.specs.declared.Amount.{Amount}
use Rattle.purse.specs.declared.Message.{Message}
use Rattle.purse.specs.declared.Purse.{Purse}
use Rattle.purse.specs.declared.CardAnswer.{CardAnswer}
use Rattle.purse.specs.declared.CardEvent.{CardEvent}
use Rattle.purse.specs.declared.CardEvent.TheVariants as card
use Rattle.purse.specs.Lists.{without}
use Rattle.purse.specs.Purse.{ceiling}
use Rattle.purse.specs.Card.{step_by}
use Rattle.desk.specs.declared.Entry.{Entry}
use Rattle.rules.specs.declared.Event.{Event}
use Rattle.rules.specs.declared.Event.TheVariants.{Malformed, StartFrom, StartTo, Deliver, Abort, Lose, Collect, Issue, Load}
use Rattle.rules.specs.Bench.{Bench, called, opened_at, purse_at, message_at}
use Rattle.rules.specs.Table.{table_ok}
use Rattle.rules.specs.Events.{decoded}

pub record Answer : Type 0 where
  pub answer : ℕ
  pub bench : Bench

-- "Answers from 2 up change nothing anywhere"
abbrev pub refused : ℕ → Bench → Answer
refused n b = record { answer = n; bench = b }

abbrev pub with_purse : Bench → ℕ → Purse → Bench
with_purse b p q = record { purses = set b.purses p q; messages = b.messages; archive = b.archive }

-- "issues a purse at the next free place"; "it starts as an opened purse does"
abbrev pub with_new : Bench → ℕ → Bench
with_new b v = record { purses = b.purses ++ (opened_at v ∷ []); messages = b.messages; archive = b.archive }

abbrev pub with_messages : Bench → List Message → Bench
with_messages b ms = record { purses = b.purses; messages = ms; archive = b.archive }

abbrev pub with_archive : Bench → List Entry → Bench
with_archive b es = record { purses = b.purses; messages = b.messages; archive = es }

-- "Sending appends at the end of the messages"; "If 256 messages stand, the sent one is lost, the step is done all the same and the
-- answer is 1". Kind 0 is no message: nothing is sent.
abbrev pub sending : Bench → Message → Answer
sending b m =
    cond (eqb m.kind 0) (record { answer = 0; bench = b })
    (cond (ltb (length b.messages) 256)
    (record { answer = 0; bench = with_messages b (b.messages ++ (m ∷ [])) })
    (record { answer = 1; bench = b }))

-- what the card of purse p answered: its record is stored and its message sent, or it refused
abbrev pub carried : Bench → ℕ → CardAnswer → Answer
carried b p a = cond (eqb a.answer 0) (sending (with_purse b p a.purse) a.message) (refused a.answer b)

-- "the purse's oldest log entry leaves it and is appended to the archive"; 15 where the archive is full, after the card's 14
abbrev pub archiving : Bench → ℕ → CardAnswer → Answer
archiving b p a =
    cond (eqb a.answer 0)
    (cond (leb 256 (length b.archive)) (refused 15 b)
    (record {
      answer = 0;
      bench =
          with_archive (with_purse b p a.purse) (b.archive ++ (record { by = called p; details = a.entry } ∷ []));
    }))
    (refused a.answer b)

-- the card of purse p is told e
abbrev pub told : Bench → ℕ → CardEvent → CardAnswer
told b p e = step_by (purse_at b p) (called p) e

abbrev pub no_purse : Bench → ℕ → Bool
no_purse b p = leb (length b.purses) p

abbrev pub no_message : Bench → ℕ → Bool
no_message b i = leb (length b.messages) i

-- "Starts: 2, 3, 4, 6, 7, 8, 9, 10, then 11 or 12": 6 for a counterparty not in the table, then the card's, which begin with
-- 6 for the purse itself
abbrev pub starting : Bench → ℕ → ℕ → CardEvent → Answer
starting b p o e =
    cond (no_purse b p) (refused 4 b)
    (cond (no_purse b o) (refused 6 b)
    (carried b p (told b p e)))

-- "Deliver: 2, 3, 4, 5, 13"
abbrev pub delivering : Bench → ℕ → ℕ → Answer
delivering b p i =
    cond (no_purse b p) (refused 4 b)
    (cond (no_message b i) (refused 5 b)
    (carried b p (told b p (card.Deliver (message_at b i)))))

-- "Abort: 2, 3, 4"
abbrev pub aborting : Bench → ℕ → Answer
aborting b p = cond (no_purse b p) (refused 4 b) (carried b p (told b p card.Abort))

-- "Lose: 2, 3, 5"
abbrev pub losing : Bench → ℕ → Answer
losing b i =
    cond (no_message b i) (refused 5 b) (record { answer = 0; bench = with_messages b (without i b.messages) })

-- "Collect: 2, 3, 4, 14, 15"
abbrev pub collecting : Bench → ℕ → Answer
collecting b p = cond (no_purse b p) (refused 4 b) (archiving b p (told b p card.Collect))

-- class 0, a person: the one class until A2
abbrev pub class_ok : ℕ → Bool
class_ok class = eqb class 0

-- "issue 2, 3, 24 (32 purses stand already), 22, 21" (02, A5)
abbrev pub issuing : Bench → ℕ → ℕ → Answer
issuing b class v =
    cond (leb 32 (length b.purses)) (refused 24 b)
    (cond (not (class_ok class)) (refused 22 b)
    (cond (ltb (ceiling (opened_at v)) v) (refused 21 b)
    (record { answer = 0; bench = with_new b v })))

-- "load 2, 3, 4, 7, 8, 12"
abbrev pub loading : Bench → ℕ → Amount → Answer
loading b p a = cond (no_purse b p) (refused 4 b) (carried b p (told b p (card.Load a)))

-- the step of an event, at a table that is well formed
unfoldable pub acting : Bench → Event → Answer
acting b Malformed = refused 3 b
acting b (StartFrom p o s a) = starting b p.0 o.0 (card.StartFrom o s a)
acting b (StartTo p o s a) = starting b p.0 o.0 (card.StartTo o s a)
acting b (Deliver p i) = delivering b p.0 i
acting b (Abort p) = aborting b p.0
acting b (Lose i) = losing b i
acting b (Collect p) = collecting b p.0
acting b (Issue class v) = issuing b class v.0
acting b (Load p a) = loading b p.0 a

-- the purses that an event may change: the one it names, or the one it issues
abbrev pub touched : Bench → Event → List ℕ
touched b Malformed = []
touched b (StartFrom p o s a) = p.0 ∷ []
touched b (StartTo p o s a) = p.0 ∷ []
touched b (Deliver p i) = p.0 ∷ []
touched b (Abort p) = p.0 ∷ []
touched b (Lose i) = []
touched b (Collect p) = p.0 ∷ []
touched b (Issue class v) = length b.purses ∷ []
touched b (Load p a) = p.0 ∷ []

-- 2 before every other test
unfoldable pub step : Bench → List ℕ → Answer
step b l = cond (table_ok b) (acting b (decoded l)) (refused 2 b)
