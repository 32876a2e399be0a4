-- A purse's record in the two parts in which the code asks its rules: its head, and its log with what the log's rules read. Each part is told
-- as a purse that has nothing else, so that the rules keep their one text in the crate purse.
use Rattle.std.specs.Prelude.{ℕ, Bool, ◌&&◌, ◌||◌, List, []}
use Rattle.purse.specs.declared.Name.{Name}
use Rattle.purse.specs.declared.Seq.{Seq}
use Rattle.purse.specs.declared.Details.{Details}
use Rattle.purse.specs.declared.Purse.{Purse}
use Rattle.purse.specs.Details.{zero_details, same_details}
use Rattle.purse.specs.Purse.{bounds_ok, idle_ok, busy_ok}
use Rattle.refusals.specs.declared.Head.{Head}

-- "unused places all zero"
abbrev pub unused : Details → Bool
unused d = same_details d zero_details

-- a head as a purse without a log
abbrev pub headed : Head → Purse
headed h =
    record {
      balance = h.balance;
      next = h.next;
      details = h.details;
      status = h.status;
      log = [];
      logged = h.logged;
    }

-- a log, its count, the running details and the next number, as a purse without money
abbrev pub logging : List Details → ℕ → Details → Seq → Purse
logging log n d next =
    record { balance = record { 0 = 0 }; next = next; status = 0; details = d; log = log; logged = n }

-- the rules about one purse alone that read no log
unfoldable pub head_ok : Name → Purse → Bool
head_ok own p = bounds_ok p && (idle_ok p || busy_ok own p)
