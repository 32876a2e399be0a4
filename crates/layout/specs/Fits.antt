-- What the declared types say of the numbers in a record: each fits its four bytes. A reader that starts from a value of the code has
-- these facts with it; a theorem about records alone asks for them.
use Rattle.purse.specs.declared.Details.{Details}
use Rattle.purse.specs.declared.Message.{Message}
use Rattle.purse.specs.declared.Purse.{Purse}
use Rattle.desk.specs.declared.Entry.{Entry}
use Rattle.bigendian.specs.Bytes.{Below, All}

pub record FitDetails (d : Details) : Type 0 where
  pub payerseq : Below 4 d.payerseq.0
  pub payeeseq : Below 4 d.payeeseq.0
  pub amount : Below 4 d.amount.0

pub record FitPurse (p : Purse) : Type 0 where
  pub balance : Below 4 p.balance.0
  pub next : Below 4 p.next.0
  pub details : FitDetails p.details
  pub log : All FitDetails p.log

pub record FitMessage (m : Message) : Type 0 where
  pub details : FitDetails m.details

pub record FitEntry (e : Entry) : Type 0 where
  pub details : FitDetails e.details
