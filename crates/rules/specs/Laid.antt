-- How the bench's lists lie in the lent table of 32 records and the desk's 256 and 256 places (`Held`): each list from place 0, zero
-- behind it. `held_step` is the whole step, from a table, a desk and an event's bytes to the answer, the table and the desk: every entry's
-- contract cites it.
use Rattle.std.specs.Prelude.{ℕ, Bool, ◌&&◌, not, cond, List, [], ◌∷◌, length, take, drop, leb, eqb}
use Rattle.purse.specs.declared.Details.{Details}
use Rattle.purse.specs.declared.Message.{Message}
use Rattle.purse.specs.declared.Purse.{Purse}
use Rattle.purse.specs.Lists.{all, padded}
use Rattle.purse.specs.Details.{zero_details, zero_message, same_details, same_message}
use Rattle.purse.specs.Purse.{zero_purse, log_places}
use Rattle.desk.specs.declared.Entry.{Entry}
use Rattle.desk.specs.declared.Held.{Held}
use Rattle.desk.specs.declared.Answered.{Answered}
use Rattle.desk.specs.declared.Figure.{Figure}
use Rattle.desk.specs.Desk.{zero_entry, same_entry}
use Rattle.rules.specs.Bench.{Bench}
use Rattle.rules.specs.Table.{table_ok}
use Rattle.rules.specs.Events.{decoded}
use Rattle.rules.specs.Steps.{acting}
use Rattle.rules.specs.Run.{opening_number, opened}
use Rattle.rules.specs.Paid.{claims}

abbrev pub laid : Bench → Held
laid b =
    record {
      table = padded 32 zero_purse b.purses;
      desk =
          record {
            purses = length b.purses;
            ether = record { places = padded 256 zero_message b.messages; count = length b.messages };
            archive = record { places = padded 256 zero_entry b.archive; count = length b.archive };
          };
    }

-- the lists that a table and a desk hold
abbrev pub seen : Held → Bench
seen h =
    record {
      purses = take h.desk.purses h.table;
      messages = take h.desk.ether.count h.desk.ether.places;
      archive = take h.desk.archive.count h.desk.archive.places;
    }

-- "Everything unused is zero"
unfoldable pub is_zero_purse : Purse → Bool
is_zero_purse p =
    eqb p.balance.0 0 && eqb p.next.0 0 && eqb p.status 0 && eqb p.logged 0
    && same_details p.details zero_details
    && eqb (length p.log) log_places
    && all (λ (d : Details). same_details d zero_details) p.log

unfoldable pub is_zero_message : Message → Bool
is_zero_message m = same_message m zero_message

unfoldable pub is_zero_entry : Entry → Bool
is_zero_entry e = same_entry e zero_entry

-- so many places, the first n of them used, the others zero
abbrev pub places_ok : {A : Type 0} → (A → Bool) → ℕ → ℕ → List A → Bool
places_ok f many n l = eqb (length l) many && leb n many && all f (drop n l)

-- "lent table of 32 records", the counts within their places, the unused places zero, and the rules of the lists
unfoldable pub held_ok : Held → Bool
held_ok h =
    places_ok is_zero_purse 32 h.desk.purses h.table
    && places_ok is_zero_message 256 h.desk.ether.count h.desk.ether.places
    && places_ok is_zero_entry 256 h.desk.archive.count h.desk.archive.places
    && table_ok (seen h)

-- an event: 2 leaves table and desk as they were
unfoldable pub held_step : Held → List ℕ → Answered
held_step h l =
    cond (held_ok h)
    (record { answer = (acting (seen h) (decoded l)).answer; held = laid (acting (seen h) (decoded l)).bench })
    (record { answer = 2; held = h })

abbrev pub held_run : Held → List (List ℕ) → Held
held_run h [] = h
held_run h (l ∷ ls) = held_run (held_step h l).held ls

abbrev pub held_answers : Held → List (List ℕ) → List ℕ
held_answers h [] = []
held_answers h (l ∷ ls) = (held_step h l).answer ∷ held_answers (held_step h l).held ls

-- "Opening: lent table not 32 records (2), 20, 21"; "Reading and opening ignore what the table held"
unfoldable pub held_opening : Held → List ℕ → Answered
held_opening h bs =
    cond (not (eqb (length h.table) 32)) (record { answer = 2; held = h })
    (cond (eqb (opening_number bs) 0) (record { answer = 0; held = laid (opened bs) })
    (record { answer = opening_number bs; held = h }))

-- the claims figure: 2, with figure 0, where the table is not well formed
unfoldable pub held_claims : Held → Figure
held_claims h =
    cond (held_ok h) (record { answer = 0; claims = claims (seen h) }) (record { answer = 2; claims = 0 })
