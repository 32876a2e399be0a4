-- The events of a piece: a run of the whole ones, and one more where the last is cut short, is a run of them all.
-- Assumes nothing.
use mathlib.Core.Path.{◌≡◌, refl, sym, ap, ◌∙◌}
use Prim.Native.Nat.{ℕ, zero, suc, ◌+◌, ◌*◌, ◌/◌, ◌≤◌, ◌<◌}
use native.Mathlib.Numerals.{add-one}
use native.Mathlib.Omega.{arith}
use mathlib.Core.List.{List, [], ◌∷◌, ◌++◌, append-nil}
use lib.ListN.{length, drop, get_or, set, length-append}
use lib.Seq.{set-append_seam, append_snoc, drop-cons}
use borrow.Author.Tests.{le-leb, eq-eqb, ne_eqb}
use Rattle.desk.specs.declared.Held.{Held}
use Rattle.desk.specs.declared.Answered.{Answered}
use Rattle.rules.specs.Laid.{held_step, held_run, held_answers}
use Rattle.bench.specs.Runs.{pieces, taken}
use Rattle.listing.specs.Piece.{events_in, piece_fits, piece_lines, piece_of, piece_buffer}
use Rattle.lines.specs.Text.{Filled}
use Rattle.lines.specs.Listing.{event_lines, lines_fit}

-- places for the answers of all whole events
pub taken-all : (l bs : List ℕ) → length l ≤ 6144 → 512 ≤ length bs → taken l bs ≡ length l / 12
unfolding taken
taken-all l bs h k = let fits : length l / 12 ≤ length bs = omega arith in simp (le-leb (length l / 12) (length bs) fits)

pub length-pieces : (n : ℕ) (l : List ℕ) → length (pieces n l) ≡ n
length-pieces zero l = refl
length-pieces (suc n) l = ap suc (length-pieces n (drop 12 l))

pub length-answers : (h : Held) (es : List (List ℕ)) → length (held_answers h es) ≡ length es
length-answers h [] = refl
length-answers h (e ∷ es) = ap suc (length-answers (held_step h e).held es)

-- a run goes on where another ended
pub run_on : (h : Held) (es fs : List (List ℕ)) → held_run h (es ++ fs) ≡ held_run (held_run h es) fs
run_on h [] fs = refl
run_on h (e ∷ es) fs = run_on (held_step h e).held es fs

pub answers_on : (h : Held) (es fs : List (List ℕ)) → held_answers h (es ++ fs) ≡ held_answers h es ++ held_answers (held_run h es) fs
answers_on h [] fs = refl
answers_on h (e ∷ es) fs = ap (λ (t : List ℕ). (held_step h e).answer ∷ t) (answers_on (held_step h e).held es fs)

module _ (l : List ℕ) where
  pub all_whole : 12 * (length l / 12) ≡ length l → events_in l ≡ pieces (length l / 12) l
  unfolding events_in
  all_whole e = simp (eq-eqb (12 * (length l / 12)) (length l) e, append-nil)

  pub last_cut : (12 * (length l / 12) ≡ length l → ⊥) → events_in l ≡ pieces (length l / 12) l ++ (drop (12 * (length l / 12)) l ∷ [])
  unfolding events_in
  last_cut h = simp (ne_eqb (12 * (length l / 12)) (length l) h)

-- one answer more
set_more : (xs bs : List ℕ) (n v : ℕ) → length xs ≡ n → n < length bs → set (xs ++ drop n bs) n v ≡ xs ++ (v ∷ []) ++ drop (n + 1) bs
set_more xs bs n v e h =
    rw (drop-cons bs n 0 h, add-one n, ← e)
    (set-append_seam xs (get_or bs (length xs) 0) (drop (suc (length xs)) bs) v ∙ sym (append_snoc xs v (drop (suc (length xs)) bs)))

-- what a run leaves: how many events, what the bench holds, and the answers before what stood there
pub record Ranned (h : Held) (es : List (List ℕ)) (bs : List ℕ) (t : ℕ) (h' : Held) (bs' : List ℕ) : Type 0 where
  pub many : t ≡ length es
  pub held : h' ≡ held_run h es
  pub said : bs' ≡ held_answers h es ++ drop (length es) bs

-- one event more
pub ran_more : (h : Held) (es : List (List ℕ)) (e bs : List ℕ) {t : ℕ} {h' : Held} {bs' : List ℕ} (a : Answered) → Ranned h es bs t h' bs'
    → t < length bs → a ≡ held_step h' e → Ranned h (es ++ (e ∷ [])) bs (t + 1) a.held (set bs' t a.answer)
ran_more h es e bs {t} {h'} {bs'} a p k q =
    let n : length (es ++ (e ∷ [])) ≡ t + 1 = length-append es (e ∷ []) ∙ omega (arith, p.many) in
    let long : length (held_answers h es) ≡ t = length-answers h es ∙ sym p.many in
    record {
      many = sym n;
      held = ap (λ (x : Answered). x.held) q ∙ ap (λ (x : Held). (held_step x e).held) p.held ∙ sym (run_on h es (e ∷ []));
      said =
          rw (p.said, ← p.many, q, p.held, n, answers_on h es (e ∷ []))
          (set_more (held_answers h es) bs t (held_step (held_run h es) e).answer long k);
    }

module _ (h : Held) (l bs : List ℕ) {t : ℕ} {h' : Held} {bs' : List ℕ} where
  -- a run with places for all whole events
  pub ran_all : length l ≤ 6144 → 512 ≤ length bs → t ≡ taken l bs → h' ≡ held_run h (pieces (taken l bs) l)
      → bs' ≡ held_answers h (pieces (taken l bs) l) ++ drop (taken l bs) bs
      → Ranned h (pieces (length l / 12) l) bs t h' bs'
  ran_all small room p q r =
      let n = taken-all l bs small room in
      let long = length-pieces (length l / 12) l in
      record { many = p ∙ n ∙ sym long; held = q ∙ rw n; said = r ∙ rw (n, long) }

  -- the same events, otherwise written
  pub ran_of : (es fs : List (List ℕ)) → fs ≡ es → Ranned h es bs t h' bs'
      → (t ≡ length fs) × (h' ≡ held_run h fs) × (bs' ≡ held_answers h fs ++ drop (length fs) bs)
  ran_of es fs e p = rw e (p.many, p.held, p.said)

-- whole events before one that is cut short leave a place for its answer
pub few_cut : (l : List ℕ) → length l ≤ 6144 → (12 * (length l / 12) ≡ length l → ⊥) → length l / 12 + 1 ≤ 512
few_cut l a h = omega arith

-- a piece that fits
module _ (h : Held) (k : ℕ) (l out : List ℕ) where
  -- the answers listed
  pub listed : {bs out' : List ℕ} {r t : ℕ} {h' : Held} → length l ≤ 6144 → 21504 ≤ length out → k ≤ 1_000_000_000_000_000_000
      → bs ≡ held_answers h (events_in l) → length bs ≤ 512 → Filled (lines_fit k bs out) (event_lines k bs) out r out'
      → t ≡ length (events_in l)
      → h' ≡ held_run h (events_in l)
      → (record { held = h'; events = t; length = r } ≡ piece_of h k l out) × (out' ≡ piece_buffer h k l out)
  unfolding piece_of piece_buffer piece_fits piece_lines lines_fit
  listed {bs} {out'} {r} {t} {h'} a b c p small f n q =
      let room : length bs * 42 ≤ length out = omega arith in
      let lines = simp (le-leb (length bs * 42) (length out) room, le-leb k 1_000_000_000_000_000_000 c) at f in
      let e1 = le-leb (length l) 6144 a in
      let e2 = le-leb 21504 (length out) b in
      let e3 = le-leb k 1_000_000_000_000_000_000 c in
      (simp (e1, e2, e3, lines.0, p, n, q), simp (e1, e2, e3, lines.1, p))
