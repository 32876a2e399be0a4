-- The round trips of the definitions, put together from what the two calls of a trip answered.
-- Assumes nothing.
use Prim.Native.Nat.{ℕ, ◌≤◌, ◌<◌}
use mathlib.Core.Path.{◌≡◌, refl, sym, ap, ◌∙◌}
use mathlib.Core.Bool.{true, false, not}
use mathlib.Core.Logic.{◌⊎◌, inl, inr, ⊎_elim}
use mathlib.Core.List.{List, ◌++◌}
use lib.ListN.{length, take, drop}
use lib.Seq.{take-append_seam}
use lib.Dec.{eqb, leb, ltb}
use native.Mathlib.Omega.{arith}
use borrow.Author.Tests.{eqb-true, eqb-false, ne_eqb, not-false, leb-true, leb-false, ltb-false, le-leb, lt-leb, lt-ltb}
use Rattle.purse.proofs.Bools.{which}
use Rattle.purse.proofs.Tests.{passed}
use Rattle.desk.specs.declared.Held.{Held}
use Rattle.desk.specs.declared.Answered.{Answered}
use Rattle.bigendian.specs.Bytes.{Bytes}
use Rattle.rules.specs.Laid.{seen, held_ok}
use Rattle.layout.specs.declared.Written.{Written}
use Rattle.layout.specs.Image.{image_of, Fits}
use Rattle.layout.specs.Calls.{held_read, write_number, held_write, held_buffer}
use Rattle.layout.proofs.Trips.{read_written_lem, image_again, written_read_lem}
use Rattle.trips.specs.Trips.{written_read, read_written, read_buffer}

-- what writing without refusal gives
record Wrote (h : Held) (out : List ℕ) : Type 0 where
  pub rules : held_ok h ≡ true
  pub long : (held_write h out).length ≡ length (image_of h)
  pub holds : held_buffer h out ≡ image_of h ++ drop (length (image_of h)) out

wrote : (h : Held) (out : List ℕ) → (held_write h out).answer ≡ 0 → Wrote h out
unfolding held_write held_buffer write_number
wrote h out e =
    ⊎_elim
    (λ (z : eqb (write_number h out) 0 ≡ true).
    record { rules = not-false _ (passed (not (held_ok h)) 2 _ (omega arith) (eqb-true _ _ z)).0; long = rw z; holds = rw z })
    (λ (z : eqb (write_number h out) 0 ≡ false). absurd (eqb-false _ _ z (rw z at e)))
    (which (eqb (write_number h out) 0))

module _ (g h : Held) (out : List ℕ) where
  -- the first bytes of the buffer, as many as writing says, are read back
  pub back : length g.table ≡ 32 → Fits (seen h) → {w : Written} {buffer : List ℕ} {r : Answered} → w ≡ held_write h out → buffer ≡ held_buffer h out
      → w.answer ≡ 0 → r ≡ held_read g (take w.length buffer) → r ≡ written_read h g out
  unfolding written_read
  back lent f {w} {buffer} {r} p q e s =
      let none : (held_write h out).answer ≡ 0 = sym (ap (λ (x : Written). x.answer) p) ∙ e in
      let ok = wrote h out none in
      let n : w.length ≡ length (image_of h) = ap (λ (x : Written). x.length) p ∙ ok.long in
      let same : take w.length buffer ≡ image_of h =
      rw (n, q, ok.holds) (take-append_seam (image_of h) (drop (length (image_of h)) out)) in
      s ∙ rw (same, none) (read_written_lem g h lent ok.rules f)

  pub not_back : {w : Written} {n : ℕ} → w ≡ held_write h out → n ≡ w.answer → (n ≡ 0 → ⊥)
      → ◌≡◌ {A = Answered} (record { answer = n; held = g }) (written_read h g out)
  unfolding written_read
  not_back {w} {n} p q some =
      let e : (held_write h out).answer ≡ n = sym (ap (λ (x : Written). x.answer) p) ∙ sym q in
      rw (e, ne_eqb n 0 some)

-- a buffer without room
module _ (h : Held) (l out : List ℕ) (i : image_of h ≡ l) (w : held_ok h ≡ true) (short : length out < length l) where
  no_room : write_number h out ≡ 19
  unfolding write_number
  no_room = rw (w, i, lt-ltb (length out) (length l) short)

  refused-answer : held_write h out ≡ record { answer = 19; length = 0 }
  unfolding held_write
  refused-answer = rw no_room

  refused_buffer : held_buffer h out ≡ out
  unfolding held_buffer
  refused_buffer = rw no_room

le_or_lt : (m n : ℕ) → (m ≤ n) ⊎ (n < m)
le_or_lt m n =
    ⊎_elim (λ (z : leb m n ≡ true). inl (leb-true m n z)) (λ (z : leb m n ≡ false). inr (leb-false m n z)) (which (leb m n))

module _ (g : Held) (l out : List ℕ) where
  -- what was read is written back, where the buffer has room for it
  pub again : Bytes l → {a : Answered} {w : Written} {buffer : List ℕ} → a ≡ held_read g l → a.answer ≡ 0 → w ≡ held_write a.held out
      → buffer ≡ held_buffer a.held out → (w ≡ read_written g l out) × (buffer ≡ read_buffer g l out)
  unfolding read_written read_buffer
  again bytes {a} {w} {buffer} p e q r =
      let none : (held_read g l).answer ≡ 0 = sym (ap (λ (x : Answered). x.answer) p) ∙ e in
      ⊎_elim
      (λ (h : length l ≤ length out).
      let both = written_read_lem g l out bytes none h in
      rw (none, le-leb (length l) (length out) h) (q ∙ rw p both.0, r ∙ rw p both.1))
      (λ (h : length out < length l).
      let image = image_again g l bytes none in
      let r0 : Held = (held_read g l).held in
      rw (none, lt-leb (length l) (length out) h)
      (q ∙ rw p (refused-answer r0 l out image.0 image.1 h), r ∙ rw p (refused_buffer r0 l out image.0 image.1 h)))
      (le_or_lt (length l) (length out))

  pub not_again : {a : Answered} {n : ℕ} → a ≡ held_read g l → n ≡ a.answer → (n ≡ 0 → ⊥)
      → (◌≡◌ {A = Written} (record { answer = n; length = 0 }) (read_written g l out)) × (out ≡ read_buffer g l out)
  unfolding read_written read_buffer
  not_again {a} {n} p q some =
      let e : (held_read g l).answer ≡ n = sym (ap (λ (x : Answered). x.answer) p) ∙ sym q in
      rw (e, ne_eqb n 0 some) (refl, refl)

-- writing never says more bytes than the buffer has
pub within : (h : Held) (out : List ℕ) → {w : Written} → w ≡ held_write h out → w.length ≤ length out
unfolding held_write write_number
within h out {w} p =
    ⊎_elim
    (λ (z : eqb (write_number h out) 0 ≡ true).
    let p1 = passed (not (held_ok h)) 2 _ (omega arith) (eqb-true _ _ z) in
    let p2 = passed (ltb (length out) (length (image_of h))) 19 0 (omega arith) p1.1 in
    let e : w.length ≡ length (image_of h) = ap (λ (x : Written). x.length) p ∙ rw z in
    omega (arith, e, ltb-false (length out) (length (image_of h)) p2.0))
    (λ (z : eqb (write_number h out) 0 ≡ false).
    let e : w.length ≡ 0 = ap (λ (x : Written). x.length) p ∙ rw z in
    omega arith)
    (which (eqb (write_number h out) 0))
