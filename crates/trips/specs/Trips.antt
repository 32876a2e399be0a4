-- "writing and reading undo each other", of the code: what a bench is that was written and read back, and what bytes are that were read and
-- written back. Nothing here names the image: it is the bench itself, and the bytes themselves.
use Rattle.std.specs.Prelude.{ℕ, cond, List, ◌++◌, length, drop, leb, eqb}
use Rattle.desk.specs.declared.Held.{Held}
use Rattle.desk.specs.declared.Answered.{Answered}
use Rattle.layout.specs.declared.Written.{Written}
use Rattle.layout.specs.Calls.{held_read, held_write}

-- a bench written into a buffer and read back over what another held: the bench itself, wherever writing answers 0
unfoldable pub written_read : Held → Held → List ℕ → Answered
written_read h g out =
    cond (eqb (held_write h out).answer 0) (record { answer = 0; held = h }) (record { answer = (held_write h out).answer; held = g })

-- bytes read and written back into a buffer: their own length, wherever reading answers 0 and the buffer has room
unfoldable pub read_written : Held → List ℕ → List ℕ → Written
read_written g l out =
    cond (eqb (held_read g l).answer 0)
    (cond (leb (length l) (length out)) (record { answer = 0; length = length l }) (record { answer = 19; length = 0 }))
    (record { answer = (held_read g l).answer; length = 0 })

-- and the bytes themselves
unfoldable pub read_buffer : Held → List ℕ → List ℕ → List ℕ
read_buffer g l out =
    cond (eqb (held_read g l).answer 0) (cond (leb (length l) (length out)) (l ++ drop (length l) out) out) out
