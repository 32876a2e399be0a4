-- Round trips: a well-formed bench that is written is read back, and an image that is read is written back, byte for byte.
-- Assumes nothing.
use Prim.Native.Nat.{ℕ, ◌≤◌}
use mathlib.Core.Path.{◌≡◌, refl, sym, ap, ◌∙◌}
use mathlib.Core.Bool.{true, false, not, cond}
use mathlib.Core.Logic.{⊎_elim}
use mathlib.Core.List.{List, [], ◌∷◌, ◌++◌}
use lib.ListN.{length, drop}
use lib.Dec.{ltb, eqb}
use native.Mathlib.Omega.{arith}
use borrow.Author.Tests.{eqb-true, eqb-false, eq-eqb, not-false, le-ltb}
use Rattle.purse.specs.Tests.{◌⇒◌, first}
use Rattle.purse.proofs.Bools.{which}
use Rattle.purse.proofs.Tests.{passed}
use Rattle.desk.specs.declared.Held.{Held}
use Rattle.bigendian.specs.Bytes.{Bytes}
use Rattle.rules.specs.Laid.{laid, seen, held_ok}
use Rattle.rules.proofs.Places.{laid-seen, seen-laid}
use Rattle.layout.specs.Head.{head_tests}
use Rattle.layout.specs.Image.{bench_bytes, image_of, lists_in, bench_in, Fits}
use Rattle.layout.specs.Calls.{read_number, held_read, write_number, held_write, held_buffer}
use Rattle.layout.proofs.Firsts.{first_then}
use Rattle.layout.proofs.Heads.{HeadOk, head_ok_lem, ok_head}
use Rattle.layout.proofs.Whole.{lists_back, head_back, lists_again}
use Rattle.layout.proofs.Stands.{small}

-- what the last test of reading adds to the head's
pub read_number_lem : (h : Held) (l : List ℕ) → length h.table ≡ 32
    → read_number h l ≡ cond (eqb (first (head_tests l)) 0) (cond (not (held_ok (bench_in l))) 2 0) (first (head_tests l))
unfolding read_number
read_number_lem h l e = rw (eq-eqb _ _ e) (first_then (head_tests l) ((not (held_ok (bench_in l)) ⇒ 2) ∷ []) refl)

-- what it says that reading refuses nothing
pub record Reads (l : List ℕ) : Type 0 where
  pub head : HeadOk l
  pub rules : held_ok (bench_in l) ≡ true

reads : (h : Held) (l : List ℕ) → read_number h l ≡ 0 → Reads l
unfolding read_number
reads h l e =
    let lent = passed (not (eqb (length h.table) 32)) 2 _ (omega arith) e in
    let split = sym (first_then (head_tests l) ((not (held_ok (bench_in l)) ⇒ 2) ∷ []) refl) ∙ lent.1 in
    ⊎_elim
    (λ (z : eqb (first (head_tests l)) 0 ≡ true).
    let last : cond (not (held_ok (bench_in l))) 2 0 ≡ 0 = rw z at split in
    record {
      head = head_ok_lem l (eqb-true _ _ z);
      rules = not-false _ (passed (not (held_ok (bench_in l))) 2 0 (omega arith) last).0;
    })
    (λ (z : eqb (first (head_tests l)) 0 ≡ false). absurd (eqb-false _ _ z (rw z at split)))
    (which (eqb (first (head_tests l)) 0))

reads_is : (h : Held) (l : List ℕ) → length h.table ≡ 32 → Reads l → read_number h l ≡ 0
reads_is h l e r = read_number_lem h l e ∙ rw (ok_head l r.head, r.rules)

-- a bench that is written is read back, whatever the reader's bench held
pub read_written_lem : (g h : Held) → length g.table ≡ 32 → held_ok h ≡ true → Fits (seen h)
    → held_read g (image_of h) ≡ record { answer = 0; held = h }
unfolding held_read image_of bench_in
read_written_lem g h e w f =
    let s = small h w in
    let same : bench_in (bench_bytes (seen h)) ≡ h = ap laid (lists_back (seen h) s f) ∙ laid-seen h w in
    let good : Reads (bench_bytes (seen h)) = record { head = head_back (seen h) s f; rules = ap held_ok same ∙ w } in
    rw (reads_is g (bench_bytes (seen h)) e good, same)

-- what reading without refusal gives
read_held : (g : Held) (l : List ℕ) → (held_read g l).answer ≡ 0 → (read_number g l ≡ 0) × ((held_read g l).held ≡ bench_in l)
unfolding held_read
read_held g l e =
    ⊎_elim
    (λ (z : eqb (read_number g l) 0 ≡ true). (eqb-true _ _ z, rw z))
    (λ (z : eqb (read_number g l) 0 ≡ false). absurd (eqb-false _ _ z (rw z at e)))
    (which (eqb (read_number g l) 0))

-- an image that reads is the image of the bench that it gives, and that bench is well formed
pub image_again : (g : Held) (l : List ℕ) → Bytes l → (held_read g l).answer ≡ 0
    → (image_of (held_read g l).held ≡ l) × (held_ok (held_read g l).held ≡ true)
unfolding image_of bench_in
image_again g l k e =
    let r = read_held g l e in
    let q = reads g l r.0 in (
      ap (λ (x : Held). bench_bytes (seen x)) r.1 ∙ ap bench_bytes (seen-laid (lists_in l)) ∙ lists_again l k q.head,
      ap held_ok r.1 ∙ q.rules,
    )

-- an image that is read is written back, into any buffer that has room for it
pub written_read_lem : (g : Held) (l out : List ℕ) → Bytes l → (held_read g l).answer ≡ 0 → length l ≤ length out
    → (held_write (held_read g l).held out ≡ record { answer = 0; length = length l })
    × (held_buffer (held_read g l).held out ≡ l ++ drop (length l) out)
unfolding held_write held_buffer write_number
written_read_lem g l out k e n =
    let a = image_again g l k e in
    let t : ltb (length out) (length l) ≡ false = le-ltb (length out) (length l) n in
    rw (a.1, a.0, t) (refl, refl)
