-- The reasons to refuse a step, each with its number in the documents' table, and what a check of them answers.
use Rattle.std.specs.Prelude.{ℕ, Bool, cond, Result, Ok, Err}
use Rattle.purse.specs.declared.refusal.Refusal.{Refusal}
use Rattle.purse.specs.declared.refusal.Refusal.TheVariants.{NotWellFormed, BadEvent, NoPurse, NoMessage, BadCounterparty, BadAmount, Busy, NumbersUsedUp, LogFull, AboveBalance, AboveCeiling, NotExpected, LogEmpty, ArchiveFull, BadLength, WrongMark, WrongVersion, BufferTooShort, BadCount, BalanceAboveCeiling, BadClass, TableFull}

abbrev pub number_of : Refusal → ℕ
number_of NotWellFormed = 2
number_of BadEvent = 3
number_of NoPurse = 4
number_of NoMessage = 5
number_of BadCounterparty = 6
number_of BadAmount = 7
number_of Busy = 8
number_of NumbersUsedUp = 9
number_of LogFull = 10
number_of AboveBalance = 11
number_of AboveCeiling = 12
number_of NotExpected = 13
number_of LogEmpty = 14
number_of ArchiveFull = 15
number_of BadLength = 16
number_of WrongMark = 17
number_of WrongVersion = 18
number_of BufferTooShort = 19
number_of BadCount = 20
number_of BalanceAboveCeiling = 21
number_of BadClass = 22
number_of TableFull = 24

-- the number of what a check answers: 0 where it finds no reason
abbrev pub answer_of : Result Unit Refusal → ℕ
answer_of (Ok _) = 0
answer_of (Err why) = number_of why

abbrev pub refused_if : Bool → Refusal → Result Unit Refusal
refused_if applies why = cond applies (Err why) (Ok tt)
