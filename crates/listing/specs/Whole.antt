-- The listing of a whole input, byte for byte; and the same line by line where the input comes in pieces.
use Rattle.std.specs.Prelude.{ℕ, ◌+◌, ◌*◌, ◌/◌, Bool, cond, List, [], ◌∷◌, ◌++◌, length, take, drop, get_or, replicate, eqb}
use Rattle.purse.specs.Purse.{zero_purse}
use Rattle.desk.specs.declared.Held.{Held}
use Rattle.desk.specs.declared.Answered.{Answered}
use Rattle.desk.specs.Desk.{opened_desk}
use Rattle.rules.specs.Laid.{held_run, held_opening}
use Rattle.lines.specs.Listing.{header_line, opening_line, foot_of}
use Rattle.listing.specs.Opening.{balance_bytes, balances_in}
use Rattle.listing.specs.Piece.{events_in, piece_lines}

-- "purse count, 4 bytes a balance, then events"
abbrev pub opening_bytes : List ℕ → List ℕ
opening_bytes l = take (1 + balance_bytes (get_or l 0 0)) l

abbrev pub event_bytes : List ℕ → List ℕ
event_bytes l = drop (1 + balance_bytes (get_or l 0 0)) l

-- a bench before its opening, which ignores what it held
abbrev pub unopened : Held
unopened = record { table = replicate 32 zero_purse; desk = opened_desk 0 }

-- what opening makes of the balances
abbrev pub opened_by : List ℕ → Answered
opened_by l = held_opening unopened (balances_in l)

-- event lines from event 1 on, purse lines, the last line
abbrev pub bench_lines : Held → List ℕ → List ℕ
bench_lines h l = piece_lines h 1 l ++ foot_of (held_run h (events_in l))

-- "If opening refuses, it prints the header line and "opening" with the number"
unfoldable pub listing_of : List ℕ → List ℕ
listing_of l =
    header_line
    ++ cond (eqb (opened_by l).answer 0) (bench_lines (opened_by l).held (event_bytes l)) (opening_line (opened_by l).answer)

-- a piece of whole events
abbrev pub whole : List ℕ → Bool
whole l = eqb (12 * (length l / 12)) (length l)

-- pieces as they come, each from where the one before it ended: the lines of their events, and what the bench then holds
abbrev pub lines_of : Held → ℕ → List (List ℕ) → List ℕ
lines_of h k [] = []
lines_of h k (l ∷ ls) = piece_lines h k l ++ lines_of (held_run h (events_in l)) (k + length (events_in l)) ls

abbrev pub held_after : Held → List (List ℕ) → Held
held_after h [] = h
held_after h (l ∷ ls) = held_after (held_run h (events_in l)) ls

abbrev pub joined : List (List ℕ) → List ℕ
joined [] = []
joined (l ∷ ls) = l ++ joined ls

-- the same listing where the events come in pieces, after what opening answered
abbrev pub in_pieces : Answered → List (List ℕ) → List ℕ
in_pieces a ls = header_line ++ cond (eqb a.answer 0) (lines_of a.held 1 ls ++ foot_of (held_after a.held ls)) (opening_line a.answer)
