-- The edges of a card's step, one table under one statement, by computing the definitions.
-- Assumes nothing.
use Prim.Native.Nat.{ℕ}
use mathlib.Core.Path.{◌≡◌, refl}
use mathlib.Core.List.{List, [], ◌∷◌, ◌++◌}
use lib.ListN.{replicate}
use Rattle.purse.specs.declared.Details.{Details}
use Rattle.purse.specs.declared.Purse.{Purse}
use Rattle.purse.specs.declared.CardEvent.{CardEvent}
use Rattle.purse.specs.declared.CardEvent.TheVariants.{StartFrom, StartTo, Deliver, Abort}
use Rattle.purse.specs.Details.{zero_details, zero_message, same_details, legal, named, as_payer, as_payee, entry_ok, absent}
use Rattle.purse.specs.Purse.{idle, epr, epv, epa, idle_ok, busy_ok, place_ok, log_ok, well_formed}
use Rattle.purse.specs.Step.{refused_by, done, expected, from_number, to_number, deliver_number, abort_number, start_from, start_to, deliver_to, abort_by}
use Rattle.purse.specs.Card.{step_by}

-- an idle purse with an empty log
abbrev resting : ℕ → ℕ → Purse
resting balance next =
    record { balance = record { 0 = balance }; next = record { 0 = next }; status = idle; details = zero_details; log = replicate 8 zero_details; logged = 0 }

-- purse 0 pays purse 1 an amount of 300, its number s
abbrev payment : ℕ → Details
payment s =
    record { payer = record { 0 = 0 }; payerseq = record { 0 = s }; payee = record { 0 = 1 }; payeeseq = record { 0 = 1 }; amount = record { 0 = 300 } }

-- purse 0, idle, with n log entries
abbrev keeping : ℕ → List Details → Purse
keeping n l = record { balance = record { 0 = 300 }; next = record { 0 = 9 }; status = idle; details = zero_details; log = l; logged = n }

-- purse 0 in epr
abbrev waiting : Purse
waiting =
    record { balance = record { 0 = 300 }; next = record { 0 = 2 }; status = epr; details = payment 1; log = replicate 8 zero_details; logged = 0 }

-- and in epa, once it has paid
abbrev paid_off : Purse
paid_off =
    record { balance = record { 0 = 0 }; next = record { 0 = 2 }; status = epa; details = payment 1; log = replicate 8 zero_details; logged = 0 }

-- purse 1, which takes that payment: in epv, once the value has arrived, and once it is stopped instead
abbrev expecting : Purse
expecting =
    record { balance = record { 0 = 200 }; next = record { 0 = 2 }; status = epv; details = payment 1; log = replicate 8 zero_details; logged = 0 }

abbrev arrived_at : Purse
arrived_at = resting 500 2

abbrev pulled_out : Purse
pulled_out =
    record { balance = record { 0 = 200 }; next = record { 0 = 2 }; status = idle; details = zero_details; log = payment 1 ∷ replicate 7 zero_details; logged = 1 }

abbrev the_value : CardEvent
the_value = Deliver (record { kind = 2; details = payment 1 })

-- seven entries
abbrev seven : List Details
seven = payment 1 ∷ payment 2 ∷ payment 3 ∷ payment 4 ∷ payment 5 ∷ payment 6 ∷ payment 7 ∷ []

-- what the purse `own` answers to a start with purse k
abbrev from : Purse → ℕ → ℕ → ℕ → ℕ
from p own k a = (step_by p (record { 0 = own }) (StartFrom (record { 0 = k }) (record { 0 = 1 }) (record { 0 = a }))).answer

abbrev to : Purse → ℕ → ℕ → ℕ → ℕ
to p own k a = (step_by p (record { 0 = own }) (StartTo (record { 0 = k }) (record { 0 = 1 }) (record { 0 = a }))).answer

pub record Edges : Type 0 where
  pub amount_zero : from (resting 300 1) 0 1 0 ≡ 7
  pub amount_one : from (resting 300 1) 0 1 1 ≡ 0
  pub amount_above : from (resting 300 1) 0 1 5_000_001 ≡ 7
  pub whole-balance : from (resting 300 1) 0 1 300 ≡ 0
  pub above_balance : from (resting 300 1) 0 1 301 ≡ 11
  pub to_the_ceiling : to (resting 4_999_700 1) 0 1 300 ≡ 0
  pub above_the_ceiling : to (resting 4_999_700 1) 0 1 301 ≡ 12
  pub last_number_but_one : from (resting 300 4_294_967_294) 0 1 1 ≡ 0
  pub last_number : from (resting 300 4_294_967_295) 0 1 1 ≡ 9
  pub seven_entries : from (keeping 7 (seven ++ (zero_details ∷ []))) 0 1 1 ≡ 0
  pub eight_entries : from (keeping 8 (seven ++ (payment 8 ∷ []))) 0 1 1 ≡ 10
  pub with_itself : from (resting 300 1) 0 0 0 ≡ 6
  pub busy_start : from waiting 0 1 1 ≡ 8
  pub name_above : from (resting 300 1) 40 1 1 ≡ 4
  pub name_above_busy : from waiting 40 1 1 ≡ 2
  pub other_above : from (resting 300 1) 0 32 1 ≡ 6
  -- an idle purse that is stopped stays the record it was
  pub idle_abort : step_by (resting 300 1) (record { 0 = 0 }) Abort ≡ done (resting 300 1) zero_message zero_details
  -- from epr nothing is logged
  pub epr_abort : step_by waiting (record { 0 = 0 }) Abort ≡ done (resting 300 2) zero_message zero_details
  -- the all-zero message is not the one expected, though the details are all zero too
  pub zero_message_lem : step_by (resting 300 1) (record { 0 = 0 }) (Deliver zero_message) ≡ refused_by 13 (resting 300 1)
  -- the request expected: the balance falls and the value is sent
  pub request-taken : step_by waiting (record { 0 = 0 }) (Deliver (record { kind = 1; details = payment 1 })) ≡ done paid_off (record { kind = 2; details = payment 1 }) zero_details
  -- the value expected: the balance rises and the acknowledge is sent; the same value again is refused
  pub value_taken : step_by expecting (record { 0 = 1 }) the_value ≡ done arrived_at (record { kind = 3; details = payment 1 }) zero_details
  pub value_again : step_by arrived_at (record { 0 = 1 }) the_value ≡ refused_by 13 arrived_at
  -- a payee that is stopped logs its details
  pub epv_abort : step_by expecting (record { 0 = 1 }) Abort ≡ done pulled_out zero_message zero_details
  -- a request with another number of the payer
  pub other_number : step_by waiting (record { 0 = 0 }) (Deliver (record { kind = 1; details = payment 2 })) ≡ refused_by 13 waiting

pub edges : Edges
unfolding same_details legal named as_payer as_payee entry_ok absent idle_ok busy_ok place_ok log_ok well_formed from_number to_number expected deliver_number abort_number start_from start_to deliver_to abort_by
edges =
    record {
      amount_zero = refl;
      amount_one = refl;
      amount_above = refl;
      whole-balance = refl;
      above_balance = refl;
      to_the_ceiling = refl;
      above_the_ceiling = refl;
      last_number_but_one = refl;
      last_number = refl;
      seven_entries = refl;
      eight_entries = refl;
      with_itself = refl;
      busy_start = refl;
      name_above = refl;
      name_above_busy = refl;
      other_above = refl;
      idle_abort = refl;
      epr_abort = refl;
      zero_message_lem = refl;
      request-taken = refl;
      value_taken = refl;
      value_again = refl;
      epv_abort = refl;
      other_number = refl;
    }
