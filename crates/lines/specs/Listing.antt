-- "The bench program's listing", as bytes: "First mark and version; then event and answer; then name, balance, next number, status, log
-- entries; then counts and claims." One newline ends every line.
use Rattle.std.specs.Prelude.{ℕ, ◌*◌, Bool, ◌&&◌, List, [], ◌∷◌, ◌++◌, length, leb}
use Rattle.purse.specs.declared.Purse.{Purse}
use Rattle.desk.specs.declared.Held.{Held}
use Rattle.rules.specs.Laid.{seen, held_claims}
use Rattle.lines.specs.Text.{decimal, field, line_end, numbered}

-- "PRS 1"
abbrev pub header_line : List ℕ
header_line = 80 ∷ 82 ∷ 83 ∷ 32 ∷ 49 ∷ 10 ∷ []

-- "opening" with the number
unfoldable pub opening_line : ℕ → List ℕ
opening_line answer = (111 ∷ 112 ∷ 101 ∷ 110 ∷ 105 ∷ 110 ∷ 103 ∷ []) ++ field answer ++ line_end

-- event and answer
unfoldable pub event_line : ℕ → ℕ → List ℕ
event_line event answer = decimal event ++ field answer ++ line_end

-- "purse", name, balance, next number, status, log entries
unfoldable pub purse_line : ℕ → Purse → List ℕ
purse_line name p =
    (112 ∷ 117 ∷ 114 ∷ 115 ∷ 101 ∷ []) ++ field name
    ++ field p.balance.0
    ++ field p.next.0
    ++ field p.status
    ++ field p.logged
    ++ line_end

-- "messages", their count, "archive", its count, "claims", the figure
unfoldable pub last_line : ℕ → ℕ → ℕ → List ℕ
last_line messages archive claims =
    (109 ∷ 101 ∷ 115 ∷ 115 ∷ 97 ∷ 103 ∷ 101 ∷ 115 ∷ []) ++ field messages
    ++ (32 ∷ 97 ∷ 114 ∷ 99 ∷ 104 ∷ 105 ∷ 118 ∷ 101 ∷ [])
    ++ field archive
    ++ (32 ∷ 99 ∷ 108 ∷ 97 ∷ 105 ∷ 109 ∷ 115 ∷ [])
    ++ field claims
    ++ line_end

-- the lines of answers, the first of them that of event k
abbrev pub event_lines : ℕ → List ℕ → List ℕ
event_lines k answers = numbered event_line k answers

-- a buffer holds them: 42 bytes a line are enough, and no event's number passes 64 bits
unfoldable pub lines_fit : ℕ → List ℕ → List ℕ → Bool
lines_fit k answers l = leb (length answers * 42) (length l) && leb k 1_000_000_000_000_000_000

-- a line for each purse of the table, names from 0, and the last line
unfoldable pub foot_with : Held → ℕ → List ℕ
foot_with h claims =
    numbered purse_line 0 (seen h).purses ++ last_line h.desk.ether.count h.desk.archive.count claims

-- the same with the claims figure of document 01
unfoldable pub foot_of : Held → List ℕ
foot_of h = foot_with h (held_claims h).claims

-- bytes that are enough for 32 purse lines and the last
abbrev pub foot_room : ℕ
foot_room = 4096
