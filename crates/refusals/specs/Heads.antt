-- The head of a record: all of a purse but its log, and the ceiling of its balance.
use Rattle.purse.specs.declared.Purse.{Purse}
use Rattle.purse.specs.Purse.{ceiling}
use Rattle.refusals.specs.declared.Head.{Head}

abbrev pub head_of : Purse → Head
head_of p =
    record {
      balance = p.balance;
      next = p.next;
      details = p.details;
      status = p.status;
      logged = p.logged;
      most = record { 0 = ceiling p };
    }
