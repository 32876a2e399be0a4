-- The head of a stored image, and the tests of it: document 01, "Stored image" and "Read".
use Rattle.std.specs.Prelude.{ℕ, ◌+◌, ◌*◌, Bool, ◌&&◌, not, List, [], ◌∷◌, ◌++◌, length, ltb, leb, eqb}
use Rattle.purse.specs.Tests.{Test, ◌⇒◌}
use Rattle.bigendian.specs.Bytes.{byte, byte_at, big, number_at}
use Rattle.layout.specs.Widths.{version_place, purses_place, messages_place, entries_place, head_width, purse_width, message_width, entry_width}

-- "version 00 01"
abbrev pub version : ℕ
version = 1

-- "Mark 50 52 53 ("PRS"), version 00 01, purse count (1 byte), message count (2), archive count (2); all big-endian"
unfoldable pub head_bytes : ℕ → ℕ → ℕ → List ℕ
head_bytes p m a = byte 0x50 ++ byte 0x52 ++ byte 0x53 ++ big 2 version ++ byte p ++ big 2 m ++ big 2 a

-- whether the mark stands there
abbrev pub marked : List ℕ → Bool
marked l = eqb (byte_at l 0) 0x50 && eqb (byte_at l 1) 0x52 && eqb (byte_at l 2) 0x53

abbrev pub version_in : List ℕ → ℕ
version_in l = number_at 2 l version_place

abbrev pub purses_in : List ℕ → ℕ
purses_in l = byte_at l purses_place

abbrev pub messages_in : List ℕ → ℕ
messages_in l = number_at 2 l messages_place

abbrev pub entries_in : List ℕ → ℕ
entries_in l = number_at 2 l entries_place

-- where the messages begin, behind so many purses; and the archive entries, behind so many messages
abbrev pub messages_from : ℕ → ℕ
messages_from p = head_width + purse_width * p

abbrev pub entries_from : ℕ → ℕ → ℕ
entries_from p m = messages_from p + message_width * m

-- how long an image of so many purses, messages and entries is
abbrev pub image_length : ℕ → ℕ → ℕ → ℕ
image_length p m a = head_width + purse_width * p + message_width * m + entry_width * a

-- "1 to 32 purses", "at most 256 messages and 256 archive entries"
abbrev pub counts_in : List ℕ → Bool
counts_in l = leb 1 (purses_in l) && leb (purses_in l) 32 && leb (messages_in l) 256 && leb (entries_in l) 256

-- "16 (under 10), 17, 18, counts (2), 16 (length)"
abbrev pub head_tests : List ℕ → List Test
head_tests l =
    (ltb (length l) head_width ⇒ 16)
    ∷ (not (marked l) ⇒ 17)
    ∷ (not (eqb (version_in l) version) ⇒ 18)
    ∷ (not (counts_in l) ⇒ 2)
    ∷ (not (eqb (length l) (image_length (purses_in l) (messages_in l) (entries_in l))) ⇒ 16)
    ∷ []
