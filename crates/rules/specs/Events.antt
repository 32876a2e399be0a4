-- "An event is 12 bytes, numbers big-endian: kind, purse, counterparty, spare (0), number (4), amount (4)."
use Rattle.std.specs.Prelude.{ℕ, ◌&&◌, cond, List, length, get_or, eqb}
use Rattle.bigendian.specs.Bytes.{number_at}
use Rattle.rules.specs.declared.Event.{Event}
use Rattle.rules.specs.declared.Event.TheVariants.{Malformed, StartFrom, StartTo, Deliver, Abort, Lose, Collect, Issue, Load}
use Rattle.rules.specs.Bench.{called}

-- "Fields a kind doesn't use are 0: counterparty and amount outside starts, number in abort and collect, purse in lose";
-- kinds 0 and 9 to 255 are malformed. 02, A5: an issue has no purse and no number, a load no counterparty and no number
abbrev pub decoded_as : ℕ → ℕ → ℕ → ℕ → ℕ → Event
decoded_as kind purse other num amount =
    cond (eqb kind 1) (StartFrom (called purse) (called other) (record { 0 = num }) (record { 0 = amount }))
    (cond (eqb kind 2) (StartTo (called purse) (called other) (record { 0 = num }) (record { 0 = amount }))
    (cond (eqb kind 3) (cond (eqb other 0 && eqb amount 0) (Deliver (called purse) num) Malformed)
    (cond (eqb kind 4) (cond (eqb other 0 && eqb num 0 && eqb amount 0) (Abort (called purse)) Malformed)
    (cond (eqb kind 5) (cond (eqb purse 0 && eqb other 0 && eqb amount 0) (Lose num) Malformed)
    (cond (eqb kind 6) (cond (eqb other 0 && eqb num 0 && eqb amount 0) (Collect (called purse)) Malformed)
    (cond (eqb kind 7) (cond (eqb purse 0 && eqb num 0) (Issue other (record { 0 = amount })) Malformed)
    (cond (eqb kind 8) (cond (eqb other 0 && eqb num 0) (Load (called purse) (record { 0 = amount })) Malformed)
    Malformed)))))))

-- bytes of any length and content
unfoldable pub decoded : List ℕ → Event
decoded l =
    cond (eqb (length l) 12 && eqb (get_or l 3 0) 0)
    (decoded_as (get_or l 0 0) (get_or l 1 0) (get_or l 2 0) (number_at 4 l 4) (number_at 4 l 8))
    Malformed
