-- No reason to refuse has the number 0, which is the answer of what is done. Assumes nothing.
use mathlib.Core.Path.{◌≡◌, refl}
use mathlib.Core.Bool.{false}
use lib.Dec.{eqb}
use Rattle.purse.specs.declared.refusal.Refusal.{Refusal}
use Rattle.purse.specs.declared.refusal.Refusal.TheVariants.{NotWellFormed, BadEvent, NoPurse, NoMessage, BadCounterparty, BadAmount, Busy, NumbersUsedUp, LogFull, AboveBalance, AboveCeiling, NotExpected, LogEmpty, ArchiveFull, BadLength, WrongMark, WrongVersion, BufferTooShort, BadCount, BalanceAboveCeiling, BadClass, TableFull}
use Rattle.purse.specs.Refusals.{number_of}

pub not_done : (why : Refusal) → eqb (number_of why) 0 ≡ false
not_done NotWellFormed = refl
not_done BadEvent = refl
not_done NoPurse = refl
not_done NoMessage = refl
not_done BadCounterparty = refl
not_done BadAmount = refl
not_done Busy = refl
not_done NumbersUsedUp = refl
not_done LogFull = refl
not_done AboveBalance = refl
not_done AboveCeiling = refl
not_done NotExpected = refl
not_done LogEmpty = refl
not_done ArchiveFull = refl
not_done BadLength = refl
not_done WrongMark = refl
not_done WrongVersion = refl
not_done BufferTooShort = refl
not_done BadCount = refl
not_done BalanceAboveCeiling = refl
not_done BadClass = refl
not_done TableFull = refl
