-- Events and benches that the computed cases share.
-- Assumes nothing.
use Prim.Native.Nat.{ℕ, zero, suc, ◌/◌, ◌%◌}
use mathlib.Core.List.{List, [], ◌∷◌, ◌++◌}
use Rattle.purse.specs.declared.Details.{Details}
use Rattle.purse.specs.Lists.{padded}
use Rattle.purse.specs.Details.{zero_details}
use Rattle.purse.specs.Purse.{log_places}
use Rattle.rules.specs.Bench.{Bench, called, opened_at}

-- a number's four bytes, and an event's twelve
abbrev word : ℕ → List ℕ
word n = n / 16777216 ∷ n / 65536 % 256 ∷ n / 256 % 256 ∷ n % 256 ∷ []

abbrev pub event : ℕ → ℕ → ℕ → ℕ → ℕ → List ℕ
event kind purse other num amount = (kind ∷ purse ∷ other ∷ 0 ∷ []) ++ word num ++ word amount

-- purse p starts a payment to, or from, purse o, whose number is 1
abbrev pub from : ℕ → ℕ → ℕ → List ℕ
from p o amount = event 1 p o 1 amount

abbrev pub to : ℕ → ℕ → ℕ → List ℕ
to p o amount = event 2 p o 1 amount

-- purse p gets the message at place i
abbrev pub delivery : ℕ → ℕ → List ℕ
delivery p i = event 3 p 0 i 0

-- a payment by purse 0 to purse 1
abbrev pub payment : ℕ → ℕ → ℕ → Details
payment payerseq payeeseq amount =
    record {
      payer = called 0;
      payerseq = record { 0 = payerseq };
      payee = called 1;
      payeeseq = record { 0 = payeeseq };
      amount = record { 0 = amount };
    }

-- payments of purse 0 with its numbers 1 to n
abbrev payments : ℕ → List Details
payments zero = []
payments (suc n) = payments n ++ (payment (suc n) 1 5 ∷ [])

-- purse 0 idle with a balance, a next number and n log entries, and an opened purse 1
abbrev pub pair : ℕ → ℕ → ℕ → Bench
pair balance next n =
    record {
      purses =
          record {
            balance = record { 0 = balance };
            next = record { 0 = next };
            status = 0;
            details = zero_details;
            log = padded log_places zero_details (payments n);
            logged = n;
          }
          ∷ opened_at 0 ∷ [];
      messages = [];
      archive = [];
    }
