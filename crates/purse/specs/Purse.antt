-- One purse's record: the ceilings, an opened purse, and the rules about one purse alone.
use Rattle.std.specs.Prelude.{ℕ, ◌+◌, Bool, ◌&&◌, ◌||◌, not, length, get_or, replicate, ltb, leb, eqb}
use Rattle.purse.specs.declared.Name.{Name}
use Rattle.purse.specs.declared.Amount.{Amount}
use Rattle.purse.specs.declared.Purse.{Purse}
use Rattle.purse.specs.Lists.{every}
use Rattle.purse.specs.Details.{zero_details, same_details, named, as_payer, as_payee, entry_ok, absent}

-- a purse's status
abbrev pub idle : ℕ
idle = 0

abbrev pub epr : ℕ
epr = 1

abbrev pub epv : ℕ
epv = 2

abbrev pub epa : ℕ
epa = 3

-- the balance ceiling of this purse: every rule and step reads it here
abbrev pub ceiling : Purse → ℕ
ceiling p = 5_000_000

abbrev pub log_places : ℕ
log_places = 8

-- "last sequence number 4,294,967,295, which is never used for a transfer"
abbrev pub last_seq : ℕ
last_seq = 4_294_967_295

-- "given balances, next sequence number 1, all idle, no entries"
abbrev pub opened_purse : Amount → Purse
opened_purse b =
    record {
      balance = b;
      next = record { 0 = 1 };
      status = idle;
      details = zero_details;
      log = replicate log_places zero_details;
      logged = 0;
    }

-- an unused record
abbrev pub zero_purse : Purse
zero_purse =
    record {
      balance = record { 0 = 0 };
      next = record { 0 = 0 };
      status = 0;
      details = zero_details;
      log = replicate log_places zero_details;
      logged = 0;
    }

-- "every ceiling kept", "each purse's next number at least 1"
abbrev pub bounds_ok : Purse → Bool
bounds_ok p = leb p.balance.0 (ceiling p) && leb 1 p.next.0 && leb p.logged log_places

-- "Everything unused is zero, an idle purse's details too"
unfoldable pub idle_ok : Purse → Bool
idle_ok p = eqb p.status idle && same_details p.details zero_details

-- epr or epa, and "In epr the amount is at most the balance"
abbrev pub pays_ok : Purse → Bool
pays_ok p = eqb p.status epr && leb p.details.amount.0 p.balance.0 || eqb p.status epa

-- "in epv balance plus amount is at most 5,000,000"
abbrev pub gets_ok : Purse → Bool
gets_ok p = eqb p.status epv && leb (p.balance.0 + p.details.amount.0) (ceiling p)

-- "A busy purse has at most 7 log entries"; "A purse in epr or epa is the payer of its details, in epv the payee"
unfoldable pub busy_ok : Name → Purse → Bool
busy_ok own p =
    named p.details && leb p.logged 7
    && (pays_ok p && as_payer own p.next p.details || gets_ok p && as_payee own p.next p.details)

-- a used place of the log: an entry, not the running details, and at no place before it
abbrev pub used_ok : Name → Purse → ℕ → Bool
used_ok own p i =
    ltb i p.logged && entry_ok own p.next (get_or p.log i zero_details)
    && not (same_details p.details (get_or p.log i zero_details))
    && absent p.log (get_or p.log i zero_details) i

abbrev pub unused_ok : Purse → ℕ → Bool
unused_ok p i = leb p.logged i && same_details (get_or p.log i zero_details) zero_details

unfoldable pub place_ok : Name → Purse → ℕ → Bool
place_ok own p i = used_ok own p i || unused_ok p i

unfoldable pub log_ok : Name → Purse → Bool
log_ok own p = eqb (length p.log) log_places && every log_places (place_ok own p)

-- the rules about one purse alone, `own` its name
unfoldable pub well_formed : Name → Purse → Bool
well_formed own p = bounds_ok p && (idle_ok p || busy_ok own p) && log_ok own p
