-- Reading and writing a stored image: the order of the refusals, and what each call leaves.
use Rattle.std.specs.Prelude.{ℕ, not, cond, Result, Ok, Err, List, [], ◌∷◌, ◌++◌, length, drop, ltb, eqb}
use Rattle.purse.specs.Tests.{Test, ◌⇒◌, first}
use Rattle.purse.specs.declared.refusal.Refusal.{Refusal}
use Rattle.purse.specs.Refusals.{number_of}
use Rattle.desk.specs.declared.Held.{Held}
use Rattle.desk.specs.declared.Answered.{Answered}
use Rattle.rules.specs.Laid.{held_ok}
use Rattle.layout.specs.declared.Written.{Written}
use Rattle.layout.specs.Head.{head_tests}
use Rattle.layout.specs.Image.{image_of, bench_in}

-- "Read: lent table not 32 records (2), 16 (under 10), 17, 18, counts (2), 16 (length), other rules (2)"
abbrev pub read_tests : Held → List ℕ → List Test
read_tests h l = (not (eqb (length h.table) 32) ⇒ 2) ∷ (head_tests l ++ ((not (held_ok (bench_in l)) ⇒ 2) ∷ []))

unfoldable pub read_number : Held → List ℕ → ℕ
read_number h l = first (read_tests h l)

-- "Reading and opening ignore what the table held"; a refusal leaves it
unfoldable pub held_read : Held → List ℕ → Answered
held_read h l =
    cond (eqb (read_number h l) 0) (record { answer = 0; held = bench_in l }) (record { answer = read_number h l; held = h })

-- "Write: 2, 19"; the buffer is out
abbrev pub write_tests : Held → List ℕ → List Test
write_tests h out = (not (held_ok h) ⇒ 2) ∷ (ltb (length out) (length (image_of h)) ⇒ 19) ∷ []

unfoldable pub write_number : Held → List ℕ → ℕ
write_number h out = first (write_tests h out)

-- "Writing also gives the image's length, 0 when it refuses"
unfoldable pub held_write : Held → List ℕ → Written
held_write h out =
    cond (eqb (write_number h out) 0) (record { answer = 0; length = length (image_of h) })
    (record { answer = write_number h out; length = 0 })

-- the length of an image that was written, or why none was, as the call answers it
abbrev pub written_of : Result ℕ Refusal → Written
written_of (Ok length) = record { answer = 0; length = length }
written_of (Err why) = record { answer = number_of why; length = 0 }

-- the buffer after: "Output past the image is untouched"
unfoldable pub held_buffer : Held → List ℕ → List ℕ
held_buffer h out = cond (eqb (write_number h out) 0) (image_of h ++ drop (length (image_of h)) out) out
