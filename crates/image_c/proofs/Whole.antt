-- A stored image written from the table copied out, or read and stored, is that of the lent table. Assumes nothing.
use mathlib.Core.Path.{◌≡◌}
use Prim.Native.Nat.{ℕ}
use mathlib.Core.Bool.{false}
use mathlib.Core.List.{List}
use lib.ListN.{length}
use lib.Dec.{eqb}
use Rattle.purse.specs.declared.Purse.{Purse}
use Rattle.desk.specs.declared.Desk.{Desk}
use Rattle.desk.specs.declared.Held.{Held}
use Rattle.rules.specs.Laid.{held_ok}
use Rattle.layout.specs.Calls.{write_number, held_write, held_buffer, read_number, held_read}
use Rattle.walk_table.specs.Lent.{held, copied_of}
use Rattle.walk_store.specs.Stored.{stored_of}
use Rattle.walk_table.proofs.Whole.{read_whole}
use Rattle.walk_store.proofs.Whole.{stored-whole}

write_refuses : (k : Held) (out : List ℕ) → held_ok k ≡ false → write_number k out ≡ 2
unfolding write_number
write_refuses k out p = rw p

write_blind : (out : List ℕ) (k m : Held) → held_ok k ≡ false → held_ok m ≡ false → held_write k out ≡ held_write m out
unfolding held_write
write_blind out k m p r = rw (write_refuses k out p, write_refuses m out r)

buffer_blind : (out : List ℕ) (k m : Held) → held_ok k ≡ false → held_ok m ≡ false → held_buffer k out ≡ held_buffer m out
unfolding held_buffer
buffer_blind out k m p r = rw (write_refuses k out p, write_refuses m out r)

pub write_lent : (l : List Purse) (d : Desk) (out : List ℕ) → held_write (held (copied_of l) d) out ≡ held_write (held l d) out
write_lent l d out = read_whole (λ (h : Held). held_write h out) l d (write_blind out)

pub buffer_lent : (l : List Purse) (d : Desk) (out : List ℕ) → held_buffer (held (copied_of l) d) out ≡ held_buffer (held l d) out
buffer_lent l d out = read_whole (λ (h : Held). held_buffer h out) l d (buffer_blind out)

number_refuses : (l : List Purse) (d : Desk) (bs : List ℕ) → eqb (length l) 32 ≡ false → read_number (held l d) bs ≡ 2
unfolding read_number
number_refuses l d bs p = rw p

read_refuses : (l : List Purse) (d : Desk) (bs : List ℕ) → eqb (length l) 32 ≡ false → held_read (held l d) bs ≡ record { answer = 2; held = held l d }
unfolding held_read
read_refuses l d bs p = rw (number_refuses l d bs p)

pub read_lent : (l : List Purse) (d : Desk) (bs : List ℕ) → stored_of l d (held_read (held (copied_of l) d) bs) ≡ held_read (held l d) bs
read_lent l d bs = stored-whole (λ (h : Held). held_read h bs) l d (read_refuses l d bs)
