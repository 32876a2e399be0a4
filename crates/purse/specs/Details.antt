-- Payment details and messages: zero, equality, and what a purse's own details must be.
use Rattle.std.specs.Prelude.{ℕ, Bool, ◌&&◌, ◌||◌, not, List, get_or, ltb, leb, eqb}
use Rattle.purse.specs.declared.Name.{Name}
use Rattle.purse.specs.declared.Seq.{Seq}
use Rattle.purse.specs.declared.Amount.{Amount}
use Rattle.purse.specs.declared.Details.{Details}
use Rattle.purse.specs.declared.Message.{Message}
use Rattle.purse.specs.Lists.{every}

-- names run from 0 to 31
abbrev pub last_name : ℕ
last_name = 31

-- the ceiling of a single amount
abbrev pub max_amount : ℕ
max_amount = 5_000_000

-- a message's kind
abbrev pub request : ℕ
request = 1

abbrev pub value : ℕ
value = 2

abbrev pub acknowledge : ℕ
acknowledge = 3

abbrev pub zero_details : Details
zero_details =
    record {
      payer = record { 0 = 0 };
      payerseq = record { 0 = 0 };
      payee = record { 0 = 0 };
      payeeseq = record { 0 = 0 };
      amount = record { 0 = 0 };
    }

abbrev pub zero_message : Message
zero_message = record { kind = 0; details = zero_details }

-- equal in every field
unfoldable pub same_details : Details → Details → Bool
same_details a b =
    eqb a.payer.0 b.payer.0 && eqb a.payerseq.0 b.payerseq.0 && eqb a.payee.0 b.payee.0
    && eqb a.payeeseq.0 b.payeeseq.0 && eqb a.amount.0 b.amount.0

-- equal in kind and details
unfoldable pub same_message : Message → Message → Bool
same_message m k = eqb m.kind k.kind && same_details m.details k.details

-- "amount 1 to 5,000,000"
unfoldable pub legal : Amount → Bool
legal a = leb 1 a.0 && leb a.0 max_amount

-- "name two different purses of the table and a legal amount" (a bench looks further, at its purse count)
unfoldable pub named : Details → Bool
named d =
    leb d.payer.0 last_name && leb d.payee.0 last_name && not (eqb d.payer.0 d.payee.0) && legal d.amount

-- the purse `own` is the payer, and its own sequence number is at least 1 and below its next one
unfoldable pub as_payer : Name → Seq → Details → Bool
as_payer own next d = eqb d.payer.0 own.0 && leb 1 d.payerseq.0 && ltb d.payerseq.0 next.0

-- likewise as the payee
unfoldable pub as_payee : Name → Seq → Details → Bool
as_payee own next d = eqb d.payee.0 own.0 && leb 1 d.payeeseq.0 && ltb d.payeeseq.0 next.0

-- "A log entry names its own purse as payer or payee"
unfoldable pub entry_ok : Name → Seq → Details → Bool
entry_ok own next d = named d && (as_payer own next d || as_payee own next d)

-- none of the first n places of a log is d
unfoldable pub absent : List Details → Details → ℕ → Bool
absent log d n = every n (λ (j : ℕ). not (same_details (get_or log j zero_details) d))
