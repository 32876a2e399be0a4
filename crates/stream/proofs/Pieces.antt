-- Event lines piece by piece, and the whole listing.
-- Assumes nothing.
use Prim.Native.Nat.{ℕ, ◌+◌, ◌*◌, ◌/◌, ◌≤◌, ◌<◌}
use native.Mathlib.Omega.{arith}
use mathlib.Core.Path.{◌≡◌, refl, sym, ap, ◌∙◌, subst}
use mathlib.Core.Bool.{true, false}
use mathlib.Core.List.{List, [], ◌++◌, append-nil}
use lib.ListN.{length, take, drop, get_or, length-append, length-drop}
use lib.Seq.{take_at}
use lib.Dec.{eqb, leb}
use borrow.Author.Tests.{eq-eqb, ne_eqb, le-leb}
use Rattle.std.specs.Prelude.{None, Some, Ok, Err, OnOk}
use Rattle.std.specs.declared.result.Result.{Result}
use Rattle.std.specs.declared.option.Option.{Option}
use Rattle.std.specs.Io.KnownBytes.{Consumes, Appends, IsAtEnd}
use Rattle.std.proofs.KnownBytes.{Consumes-nil, Consumes-trans, Appends-nil, Appends-trans}
use Rattle.bigendian.specs.Bytes.{put}
use Rattle.bigendian.proofs.Puts.{put_eq, length-put}
use Rattle.desk.specs.declared.Held.{Held}
use Rattle.desk.specs.declared.Answered.{Answered}
use Rattle.rules.specs.Laid.{held_run}
use Rattle.lines.specs.Text.{Filled, numbered}
use Rattle.lines.specs.Listing.{header_line, opening_line, foot_of}
use Rattle.listing.specs.declared.Listed.{Listed as Piece}
use Rattle.listing.specs.Opening.{balance_bytes}
use Rattle.listing.specs.Piece.{events_in, piece_fits, piece_lines, piece_of, piece_buffer}
use Rattle.listing.specs.Whole.{event_bytes, opened_by, listing_of}
use Rattle.listing.proofs.Cuts.{length-pieces, all_whole}
use Rattle.listing.proofs.Whole.{run-append, lines_append}
use Rattle.stream.specs.Run.{Opens, Listed, Lists}

-- the front of a buffer is what was put there
put_front : (vs l : List ℕ) {l' : List ℕ} {r : ℕ} → r ≡ length vs → l' ≡ put l 0 vs → r ≤ length l' → take r l' ≡ vs
put_front vs l {l'} {r} e p h =
    let long : length l' ≡ length l = ap length p ∙ length-put l 0 vs in
    rw (p, put_eq l 0 vs (omega arith)) (take_at vs (drop (0 + length vs) l) r (sym e))

pub filled_front : (n : ℕ) (vs l : List ℕ) {l' : List ℕ} {r : ℕ} → Filled (leb n (length l)) vs l r l' → n ≤ length l → r ≤ length l' → take r l' ≡ vs
filled_front n vs l p e h = let q = rw (le-leb n (length l) e) at p in put_front vs l q.0 q.1 h

pub piece_front : (h : Held) (k : ℕ) (l out : List ℕ) {r : Piece} {out' : List ℕ} → length l ≤ 6144 → 21504 ≤ length out → k ≤ 1_000_000_000_000_000_000
    → (r ≡ piece_of h k l out) × (out' ≡ piece_buffer h k l out)
    → r.length ≤ length out'
    → (take r.length out' ≡ piece_lines h k l) × (r.held ≡ held_run h (events_in l))
unfolding piece_of piece_buffer piece_fits
piece_front h k l out {r} {out'} a b c p n =
    let fits : piece_fits k l out ≡ true = simp (le-leb (length l) 6144 a, le-leb 21504 (length out) b, le-leb k 1_000_000_000_000_000_000 c) in
    let whole : r ≡ record { held = held_run h (events_in l); events = length (events_in l); length = length (piece_lines h k l) } = rw fits at p.0 in
    let bytes : out' ≡ put out 0 (piece_lines h k l) = rw fits at p.1 in
    (put_front (piece_lines h k l) out (ap (λ (x : Piece). x.length) whole) bytes n, ap (λ (x : Piece). x.held) whole)

-- nothing read, nothing listed
pub none_listed : (h : Held) (i o : Option (List ℕ)) → Listed h [] i i o o h
unfolding events_in piece_lines numbered
none_listed h i o = record { read = Consumes-nil i; written = Appends-nil o; held = refl }

-- one piece more behind whole ones
pub more_listed : {opened h h' : Held} {bytes : List ℕ} {i i₁ i₂ o o₁ o₂ : Option (List ℕ)} (k : ℕ) (x : List ℕ) → Listed opened bytes i i₁ o o₁ h
    → length bytes ≡ 6144 * k
    → Consumes i₁ i₂ x
    → Appends o₁ o₂ (piece_lines h (1 + 512 * k) x)
    → h' ≡ held_run h (events_in x)
    → Listed opened (bytes ++ x) i i₂ o o₂ h'
more_listed {opened} {h} {h'} {bytes} {i} {i₁} {i₂} {o} {o₁} {o₂} k x p e r w q =
    let whole : 12 * (length bytes / 12) ≡ length bytes = omega arith in
    let many : length (events_in bytes) ≡ 512 * k =
    ap length (all_whole bytes whole) ∙ length-pieces (length bytes / 12) bytes ∙ omega arith in
    let lines : piece_lines opened 1 (bytes ++ x) ≡ piece_lines opened 1 bytes ++ piece_lines h (1 + 512 * k) x =
    lines_append bytes x whole opened 1 ∙ rw (many, ← p.held) in
    record {
      read = Consumes-trans i i₁ i₂ bytes x p.read r;
      written = subst (Appends o o₂) (sym lines) (Appends-trans o o₁ o₂ (piece_lines opened 1 bytes) (piece_lines h (1 + 512 * k) x) p.written w);
      held = q ∙ rw p.held (sym (run-append bytes x whole opened));
    }

-- bytes read from an input to its end are its bytes
all_read : (m : List ℕ) (i : Option (List ℕ)) (bytes : List ℕ) → Consumes (Some m) i bytes → (length bytes < 12 * 1_000_000_000_000_000_000 → IsAtEnd i)
    → length m < 12 * 1_000_000_000_000_000_000
    → bytes ≡ m
all_read m None bytes p end h = absurd p
all_read m (Some k) bytes p end h =
    let long : length m ≡ length bytes + length k = ap length p ∙ length-append bytes k in
    let none : k ≡ [] = end (omega arith) in
    sym (p ∙ ap (λ (t : List ℕ). bytes ++ t) none ∙ append-nil bytes)

-- header, event lines, foot
pub all_listed : (i i₁ i₂ o o₁ o₂ o₃ : Option (List ℕ)) (a : Answered) (bytes : List ℕ) (h : Held) → Appends o o₁ header_line → Opens i a i₁ → a.answer ≡ 0
    → Listed a.held bytes i₁ i₂ o₁ o₂ h
    → (length bytes < 12 * 1_000_000_000_000_000_000 → IsAtEnd i₂)
    → Appends o₂ o₃ (foot_of h)
    → Lists i o o₃
unfolding listing_of
all_listed None i₁ i₂ o o₁ o₂ o₃ a bytes h p q e r end s = tt
all_listed (Some l) i₁ i₂ o o₁ o₂ o₃ a bytes h p q e r end s =
    λ short.
    let read : Consumes (Some (event_bytes l)) i₂ bytes = rw q.1 at r.read in
    let rest : length (event_bytes l) < 12 * 1_000_000_000_000_000_000 = omega (arith, short, length-drop (1 + balance_bytes (get_or l 0 0)) l) in
    let all = all_read (event_bytes l) i₂ bytes read end rest in
    let answer : eqb (opened_by l).answer 0 ≡ true = eq-eqb _ _ (sym (ap (λ (x : Answered). x.answer) q.0) ∙ e) in
    let listing : header_line ++ piece_lines a.held 1 bytes ++ foot_of h ≡ listing_of l = rw (r.held, all, q.0, answer) refl in
    subst (Appends o o₃) listing (Appends-trans o o₂ o₃ _ _ (Appends-trans o o₁ o₂ _ _ p r.written) s)

-- header, the line of a refused opening
pub all_refused : (i i₁ o o₁ o₂ : Option (List ℕ)) (a : Answered) → Appends o o₁ header_line → Opens i a i₁ → (a.answer ≡ 0 → ⊥)
    → Appends o₁ o₂ (opening_line a.answer)
    → Lists i o o₂
unfolding listing_of
all_refused None i₁ o o₁ o₂ a p q e s = tt
all_refused (Some l) i₁ o o₁ o₂ a p q e s =
    λ short.
    let same : (opened_by l).answer ≡ a.answer = sym (ap (λ (x : Answered). x.answer) q.0) in
    let answer : eqb (opened_by l).answer 0 ≡ false = ne_eqb _ _ (λ z. e (sym same ∙ z)) in
    let listing : header_line ++ opening_line a.answer ≡ listing_of l = rw (answer, same) refl in
    subst (Appends o o₂) listing (Appends-trans o o₁ o₂ _ _ p s)

-- what holds of a success follows from what holds of it
pub on_ok : {T E : Type 0} {A B : Type 0} (r : Result T E) → (A → B) → OnOk r A → OnOk r B
on_ok (Ok x) f p = f p
on_ok (Err e) f p = tt
