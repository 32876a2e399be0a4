-- "Only the first that applies, in this order": for each kind of event, the documents' list of tests as one list about the bench. The steps
-- of Steps.antt test part at the bench and part at the card; that their answer is the first of these lists is proved (proofs/Orders.antt).
-- What is done answers 0, or 1 where a message is sent and 256 stand: the last test of a list, so that 0 means that none applies.
use Rattle.std.specs.Prelude.{ℕ, ◌+◌, Bool, true, ◌&&◌, ◌||◌, not, List, [], ◌∷◌, ◌++◌, length, ltb, leb, eqb}
use Rattle.purse.specs.declared.Name.{Name}
use Rattle.purse.specs.declared.Amount.{Amount}
use Rattle.purse.specs.Tests.{Test, ◌⇒◌}
use Rattle.purse.specs.Details.{acknowledge, legal}
use Rattle.purse.specs.Purse.{idle, last_seq, log_places, ceiling}
use Rattle.purse.specs.Step.{expected}
use Rattle.desk.specs.declared.Held.{Held}
use Rattle.rules.specs.declared.Event.{Event}
use Rattle.rules.specs.declared.Event.TheVariants.{Malformed, StartFrom, StartTo, Deliver, Abort, Lose, Collect, Issue, Load}
use Rattle.rules.specs.Bench.{Bench, opened_at, purse_at, message_at}
use Rattle.rules.specs.Table.{table_ok}
use Rattle.rules.specs.Events.{decoded}
use Rattle.rules.specs.Steps.{class_ok, no_purse, no_message}
use Rattle.rules.specs.Laid.{seen, held_ok}

-- 256 messages stand: one that is sent is lost
abbrev pub full : Bench → Bool
full b = leb 256 (length b.messages)

-- "Starts: [2, 3,] 4, 6, 7, 8, 9, 10, then 11 or 12"
abbrev pub starts : Bench → Name → Name → Amount → Test → List Test
starts b p o a last =
    (no_purse b p.0 ⇒ 4)
    ∷ (no_purse b o.0 || eqb o.0 p.0 ⇒ 6)
    ∷ (not (legal a) ⇒ 7)
    ∷ (not (eqb (purse_at b p.0).status idle) ⇒ 8)
    ∷ (eqb (purse_at b p.0).next.0 last_seq ⇒ 9)
    ∷ (leb log_places (purse_at b p.0).logged ⇒ 10)
    ∷ last
    ∷ []

abbrev pub from_tests : Bench → Name → Name → Amount → List Test
from_tests b p o a = starts b p o a (ltb (purse_at b p.0).balance.0 a.0 ⇒ 11)

abbrev pub to_tests : Bench → Name → Name → Amount → List Test
to_tests b p o a = starts b p o a (ltb (ceiling (purse_at b p.0)) ((purse_at b p.0).balance.0 + a.0) ⇒ 12)

-- "Deliver: [2, 3,] 4, 5, 13"
abbrev pub deliver_tests : Bench → Name → ℕ → List Test
deliver_tests b p i =
    (no_purse b p.0 ⇒ 4)
    ∷ (no_message b i ⇒ 5)
    ∷ (not (expected (purse_at b p.0) (message_at b i)) ⇒ 13)
    ∷ []

-- "Collect: [2, 3,] 4, 14, 15"
abbrev pub collect_tests : Bench → Name → List Test
collect_tests b p =
    (no_purse b p.0 ⇒ 4)
    ∷ (eqb (purse_at b p.0).logged 0 ⇒ 14)
    ∷ (leb 256 (length b.archive) ⇒ 15)
    ∷ []

-- 02, A5: "issue [2, 3,] 24 (32 purses stand already), 22, 21"
abbrev pub issue_tests : Bench → ℕ → ℕ → List Test
issue_tests b class v =
    (leb 32 (length b.purses) ⇒ 24)
    ∷ (not (class_ok class) ⇒ 22)
    ∷ (ltb (ceiling (opened_at v)) v ⇒ 21)
    ∷ []

-- "load [2, 3,] 4, 7, 8, 12"
abbrev pub load_tests : Bench → Name → Amount → List Test
load_tests b p a =
    (no_purse b p.0 ⇒ 4)
    ∷ (not (legal a) ⇒ 7)
    ∷ (not (eqb (purse_at b p.0).status idle) ⇒ 8)
    ∷ (ltb (ceiling (purse_at b p.0)) ((purse_at b p.0).balance.0 + a.0) ⇒ 12)
    ∷ []

-- what each kind tests after 2; a request and a value that are taken send a message, an acknowledge none
abbrev pub tests_of : Bench → Event → List Test
tests_of b Malformed = (true ⇒ 3) ∷ []
tests_of b (StartFrom p o s a) = from_tests b p o a
tests_of b (StartTo p o s a) = to_tests b p o a ++ ((full b ⇒ 1) ∷ [])
tests_of b (Deliver p i) = deliver_tests b p i ++ ((not (eqb (message_at b i).kind acknowledge) && full b ⇒ 1) ∷ [])
tests_of b (Abort p) = (no_purse b p.0 ⇒ 4) ∷ []
tests_of b (Lose i) = (no_message b i ⇒ 5) ∷ []
tests_of b (Collect p) = collect_tests b p
tests_of b (Issue class v) = issue_tests b class v.0
tests_of b (Load p a) = load_tests b p a

-- 2 before every other test
abbrev pub order : Bench → List ℕ → List Test
order b l = (not (table_ok b) ⇒ 2) ∷ tests_of b (decoded l)

-- the same of a table and a desk
abbrev pub held_order : Held → List ℕ → List Test
held_order h l = (not (held_ok h) ⇒ 2) ∷ tests_of (seen h) (decoded l)
