-- A reason to refuse is found back from its number, so that two checks that answer one number answer alike: a contract that gives `answer_of`
-- of its result leaves one result. The reasons stand in a list at the places of their numbers. Assumes nothing.
use Rattle.std.specs.Prelude.{◌≡◌, ℕ, List, [], ◌∷◌, Result, Ok, Err, get_or}
use mathlib.Core.Path.{refl, sym, ap, ◌∙◌}
use Rattle.purse.specs.declared.refusal.Refusal.{Refusal}
use Rattle.purse.specs.declared.refusal.Refusal.TheVariants.{NotWellFormed, BadEvent, NoPurse, NoMessage, BadCounterparty, BadAmount, Busy, NumbersUsedUp, LogFull, AboveBalance, AboveCeiling, NotExpected, LogEmpty, ArchiveFull, BadLength, WrongMark, WrongVersion, BufferTooShort, BadCount, BalanceAboveCeiling, BadClass, TableFull}
use Rattle.purse.specs.Refusals.{answer_of}

abbrev let_by : Result Unit Refusal
let_by = Ok tt

abbrev reasons : List (Result Unit Refusal)
reasons =
    let_by ∷ let_by ∷ Err NotWellFormed ∷ Err BadEvent ∷ Err NoPurse ∷ Err NoMessage ∷ Err BadCounterparty ∷ Err BadAmount ∷ Err Busy
    ∷ Err NumbersUsedUp ∷ Err LogFull ∷ Err AboveBalance ∷ Err AboveCeiling ∷ Err NotExpected ∷ Err LogEmpty ∷ Err ArchiveFull
    ∷ Err BadLength ∷ Err WrongMark ∷ Err WrongVersion ∷ Err BufferTooShort ∷ Err BadCount ∷ Err BalanceAboveCeiling ∷ Err BadClass
    ∷ let_by ∷ Err TableFull ∷ []

found_back : (r : Result Unit Refusal) → get_or reasons (answer_of r) let_by ≡ r
found_back (Ok x) = refl
found_back (Err NotWellFormed) = refl
found_back (Err BadEvent) = refl
found_back (Err NoPurse) = refl
found_back (Err NoMessage) = refl
found_back (Err BadCounterparty) = refl
found_back (Err BadAmount) = refl
found_back (Err Busy) = refl
found_back (Err NumbersUsedUp) = refl
found_back (Err LogFull) = refl
found_back (Err AboveBalance) = refl
found_back (Err AboveCeiling) = refl
found_back (Err NotExpected) = refl
found_back (Err LogEmpty) = refl
found_back (Err ArchiveFull) = refl
found_back (Err BadLength) = refl
found_back (Err WrongMark) = refl
found_back (Err WrongVersion) = refl
found_back (Err BufferTooShort) = refl
found_back (Err BadCount) = refl
found_back (Err BalanceAboveCeiling) = refl
found_back (Err BadClass) = refl
found_back (Err TableFull) = refl

pub one_answer : {n : ℕ} {r s : Result Unit Refusal} → answer_of r ≡ n → answer_of s ≡ n → r ≡ s
one_answer {r = r} {s = s} e f = sym (found_back r) ∙ ap (λ k. get_or reasons k let_by) (e ∙ sym f) ∙ found_back s
