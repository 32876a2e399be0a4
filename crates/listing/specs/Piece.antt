-- A piece of the input's events: how they are cut, and their lines.
use Rattle.std.specs.Prelude.{ℕ, ◌*◌, ◌/◌, Bool, ◌&&◌, cond, List, [], ◌∷◌, ◌++◌, length, drop, leb, eqb}
use Rattle.desk.specs.declared.Held.{Held}
use Rattle.rules.specs.Laid.{held_run, held_answers}
use Rattle.bench.specs.Runs.{pieces}
use Rattle.bigendian.specs.Bytes.{put}
use Rattle.listing.specs.declared.Listed.{Listed}
use Rattle.lines.specs.Listing.{event_lines}

-- "A last event cut short gets 3, in any list of events": what is left behind the whole events is an event of its own
abbrev pub cut_short : List ℕ → List (List ℕ)
cut_short l = cond (eqb (12 * (length l / 12)) (length l)) [] (drop (12 * (length l / 12)) l ∷ [])

-- "An event is 12 bytes"
unfoldable pub events_in : List ℕ → List (List ℕ)
events_in l = pieces (length l / 12) l ++ cut_short l

-- the lines of a piece's events, the first of them event k
unfoldable pub piece_lines : Held → ℕ → List ℕ → List ℕ
piece_lines h k l = event_lines k (held_answers h (events_in l))

-- a piece of at most 512 events, a buffer that holds their lines, and no event's number past 64 bits
unfoldable pub piece_fits : ℕ → List ℕ → List ℕ → Bool
piece_fits k l out = leb (length l) 6144 && leb 21504 (length out) && leb k 1_000_000_000_000_000_000

-- what the bench then holds, how many events they were, and how long their lines; a piece that does not fit leaves all as it was
unfoldable pub piece_of : Held → ℕ → List ℕ → List ℕ → Listed
piece_of h k l out =
    cond (piece_fits k l out)
    (record { held = held_run h (events_in l); events = length (events_in l); length = length (piece_lines h k l) })
    (record { held = h; events = 0; length = 0 })

unfoldable pub piece_buffer : Held → ℕ → List ℕ → List ℕ → List ℕ
piece_buffer h k l out = cond (piece_fits k l out) (put out 0 (piece_lines h k l)) out
