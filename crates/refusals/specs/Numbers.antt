-- The tests of a card's step behind the first, which asks the record: the same tests in the same order as in purse/specs/Step, on the head
-- of the record. On a record that breaks the rules a step whose sum, difference or log place would not be there answers 2, so that every
-- step is defined on every record, and no rule is asked that a well-formed record can break.
use Rattle.std.specs.Prelude.{ℕ, ◌+◌, Bool, true, ◌&&◌, ◌||◌, not, cond, List, [], ◌∷◌, ◌++◌, ltb, leb, eqb}
use Rattle.purse.specs.declared.Name.{Name}
use Rattle.purse.specs.declared.Amount.{Amount}
use Rattle.purse.specs.declared.Message.{Message}
use Rattle.purse.specs.Tests.{Test, ◌⇒◌, first}
use Rattle.purse.specs.Details.{last_name, request, value, acknowledge, same_details, legal}
use Rattle.purse.specs.Purse.{idle, epr, epv, epa, last_seq, log_places}
use Rattle.refusals.specs.declared.Head.{Head}

-- behind the record, the name
abbrev pub own_tests : Name → List Test
own_tests own = (ltb last_name own.0 ⇒ 4) ∷ []

-- "Starts: 2, 3, 4, 6, 7, 8, 9, 10, then 11 or 12"
abbrev pub start_tests : Head → Name → Name → Amount → List Test
start_tests h own other a =
    (ltb last_name own.0 ⇒ 4)
    ∷ (ltb last_name other.0 || eqb other.0 own.0 ⇒ 6)
    ∷ (not (legal a) ⇒ 7)
    ∷ (not (eqb h.status idle) ⇒ 8)
    ∷ (eqb h.next.0 last_seq ⇒ 9)
    ∷ (leb log_places h.logged ⇒ 10)
    ∷ []

unfoldable pub start_number : Head → Name → Name → Amount → ℕ
start_number h own other a = first (start_tests h own other a)

unfoldable pub from_number : Head → Name → Name → Amount → ℕ
from_number h own other a = first (start_tests h own other a ++ ((ltb h.balance.0 a.0 ⇒ 11) ∷ []))

unfoldable pub to_number : Head → Name → Name → Amount → ℕ
to_number h own other a = first (start_tests h own other a ++ ((ltb h.most.0 (h.balance.0 + a.0) ⇒ 12) ∷ []))

-- "Request, in epr with equal details", "Value, in epv with equal details", "Acknowledge, in epa with equal details"
unfoldable pub expected : Head → Message → Bool
expected h m =
    same_details h.details m.details
    && (eqb m.kind request && eqb h.status epr || eqb m.kind value && eqb h.status epv
    || eqb m.kind acknowledge && eqb h.status epa)

-- the balance after a message of that kind is there
unfoldable pub fits : Head → ℕ → Bool
fits h k =
    cond (eqb k request) (leb h.details.amount.0 h.balance.0)
    (cond (eqb k value) (leb (h.balance.0 + h.details.amount.0) h.most.0) true)

-- "Deliver: 2, 3, 4, 5, 13"
unfoldable pub deliver_number : Head → Name → Message → ℕ
deliver_number h own m =
    first (own_tests own ++ ((not (expected h m) ⇒ 13) ∷ (not (fits h m.kind) ⇒ 2) ∷ []))

-- "Abort: 2, 3, 4", and a log place is there for a busy purse
unfoldable pub abort_number : Head → Name → ℕ
abort_number h own =
    first (own_tests own ++ ((not (eqb h.status idle || ltb h.logged log_places) ⇒ 2) ∷ []))

-- "Collect: 2, 3, 4, 14, 15"
unfoldable pub collect_number : Head → Name → ℕ
collect_number h own = first (own_tests own ++ ((eqb h.logged 0 ⇒ 14) ∷ []))

-- 8, then 12: a purse whose balance is to rise by an amount must be idle and have room for it
abbrev pub raise_tests : Head → Amount → List Test
raise_tests h a =
    (not (eqb h.status idle) ⇒ 8)
    ∷ (ltb h.most.0 (h.balance.0 + a.0) ⇒ 12)
    ∷ []

-- "load 2, 3, 4, 7, 8, 12" (02, A5)
unfoldable pub load_number : Head → Name → Amount → ℕ
load_number h own a = first (own_tests own ++ ((not (legal a) ⇒ 7) ∷ raise_tests h a))
