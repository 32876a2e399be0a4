-- What a run reads and writes, where the bytes that the reader has left and those that the writer holds are known.
use Rattle.std.specs.Prelude.{ℕ, ◌*◌, ◌<◌, ◌≡◌, List, length, Option, Some, IfSome}
use Rattle.std.specs.Io.KnownBytes.{Consumes, Appends}
use Rattle.desk.specs.declared.Held.{Held}
use Rattle.desk.specs.declared.Answered.{Answered}
use Rattle.rules.specs.Laid.{held_run}
use Rattle.listing.specs.Piece.{events_in, piece_lines}
use Rattle.listing.specs.Whole.{opening_bytes, event_bytes, opened_by, listing_of}

-- the opening bytes are read, and no more
abbrev pub Reads : Option (List ℕ) → List ℕ → Option (List ℕ) → Type 0
Reads i bytes i' = IfSome i (λ l. (bytes ≡ opening_bytes l) × (i' ≡ Some (event_bytes l)))

-- a bench opened by the front of an input, and its event bytes left
abbrev pub Opens : Option (List ℕ) → Answered → Option (List ℕ) → Type 0
Opens i a i' = IfSome i (λ l. (a ≡ opened_by l) × (i' ≡ Some (event_bytes l)))

-- bytes of events are read and listed, the first of them event 1, and what the bench then holds
pub record Listed (opened : Held) (bytes : List ℕ) (i i' o o' : Option (List ℕ)) (h : Held) : Type 0 where
  pub read : Consumes i i' bytes
  pub written : Appends o o' (piece_lines opened 1 bytes)
  pub held : h ≡ held_run opened (events_in bytes)

-- a whole input is listed, if its bytes are not those of more events than have numbers
abbrev pub Lists : Option (List ℕ) → Option (List ℕ) → Option (List ℕ) → Type 0
Lists i o o' = IfSome i (λ l. length l < 12 * 1_000_000_000_000_000_000 → Appends o o' (listing_of l))
