-- An input may come in pieces: its opening bytes first, then its events, every piece of them but the last of whole events. The lines of
-- the pieces one after the other are then the listing of the whole (`listing_in_pieces`). Why: the opening reads no byte behind its own,
-- whole events before others are cut as they would be alone, and a run goes on where another ended.
-- Assumes nothing.
use Prim.Native.Nat.{ℕ, zero, suc, ◌+◌, ◌*◌, ◌/◌, ◌≤◌, ◌<◌}
use mathlib.Core.Path.{◌≡◌, refl, sym, ap, ◌∙◌}
use mathlib.Core.Bool.{true, false}
use mathlib.Core.Logic.{⊎_elim}
use mathlib.Core.List.{List, [], ◌∷◌, ◌++◌, append-nil, append_assoc}
use lib.ListN.{length, take, drop, get_or, length-append, length-drop}
use lib.Seq.{take-append-le, drop-append-le, drop-append-add, get_or-take, take_all, length-take-le}
use lib.Dec.{leb, eqb}
use native.Mathlib.Omega.{arith}
use borrow.Author.Tests.{eqb-true, eqb-false, leb-true, leb-false, le-leb}
use Rattle.purse.specs.Lists.{all}
use Rattle.purse.proofs.Bools.{and_l, and_r, which}
use Rattle.desk.specs.declared.Held.{Held}
use Rattle.rules.specs.Laid.{held_run, held_answers}
use Rattle.bench.specs.Runs.{pieces}
use Rattle.bigendian.specs.Bytes.{number_at, many}
use Rattle.lines.specs.Listing.{event_line}
use Rattle.listing.specs.Opening.{balance_bytes, balances_at, whole_opening, balances_in}
use Rattle.listing.specs.Piece.{events_in, piece_lines}
use Rattle.listing.specs.Whole.{opening_bytes, opened_by, event_bytes, listing_of, whole, lines_of, held_after, joined, in_pieces}
use Rattle.lines.proofs.Puts.{numbered-append}
use Rattle.listing.proofs.Cuts.{run_on, answers_on, length-answers, all_whole, last_cut}

none : (xs : List ℕ) → length xs ≡ 0 → xs ≡ []
none [] e = refl
none (x ∷ xs) e = absurd (omega arith)

-- n whole events, then others
pieces-append : (n m : ℕ) (xs ys : List ℕ) → length xs ≡ 12 * n → pieces (n + m) (xs ++ ys) ≡ pieces n xs ++ pieces m ys
pieces-append zero m xs ys e =
    let z : zero + m ≡ m = omega arith in
    rw (z, none xs (omega arith))
pieces-append (suc n) m xs ys e =
    let s : suc n + m ≡ suc (n + m) = omega arith in
    let long : 12 ≤ length xs = omega arith in
    let rest : length (drop 12 xs) ≡ 12 * n = length-drop 12 xs ∙ omega arith in
    rw (s, take-append-le 12 xs ys long, drop-append-le 12 xs ys long)
    (ap (λ (t : List (List ℕ)). take 12 xs ∷ t) (pieces-append n m (drop 12 xs) ys rest))

module _ (xs ys : List ℕ) (w : 12 * (length xs / 12) ≡ length xs) where
  -- whole events before others are cut as they would be alone, and so are the others
  pub events_append : events_in (xs ++ ys) ≡ events_in xs ++ events_in ys
  events_append =
      let long : length (xs ++ ys) ≡ length xs + length ys = length-append xs ys in
      let many : length (xs ++ ys) / 12 ≡ length xs / 12 + length ys / 12 = rw long (omega arith) in
      let front : pieces (length (xs ++ ys) / 12) (xs ++ ys) ≡ events_in xs ++ pieces (length ys / 12) ys =
      rw (many, all_whole xs w) (pieces-append (length xs / 12) (length ys / 12) xs ys (sym w))
      in
      ⊎_elim
      (λ (e : eqb (12 * (length ys / 12)) (length ys) ≡ true).
      let v : 12 * (length ys / 12) ≡ length ys = eqb-true _ _ e in
      let u : 12 * (length (xs ++ ys) / 12) ≡ length (xs ++ ys) = omega arith in
      all_whole (xs ++ ys) u ∙ front ∙ ap (λ (t : List (List ℕ)). events_in xs ++ t) (sym (all_whole ys v)))
      (λ (e : eqb (12 * (length ys / 12)) (length ys) ≡ false).
      let v : (12 * (length ys / 12) ≡ length ys → ⊥) = eqb-false _ _ e in
      let u : (12 * (length (xs ++ ys) / 12) ≡ length (xs ++ ys) → ⊥) = λ q. v (omega arith) in
      let at : 12 * (length (xs ++ ys) / 12) ≡ length xs + 12 * (length ys / 12) = omega arith in
      let behind : drop (12 * (length (xs ++ ys) / 12)) (xs ++ ys) ≡ drop (12 * (length ys / 12)) ys = rw at (drop-append-add xs ys (12 * (length ys / 12))) in
      last_cut (xs ++ ys) u
      ∙ rw (front, behind, last_cut ys v)
      (append_assoc (events_in xs) (pieces (length ys / 12) ys) (drop (12 * (length ys / 12)) ys ∷ [])))
      (which (eqb (12 * (length ys / 12)) (length ys)))

  module _ (h : Held) where
    pub run-append : held_run h (events_in (xs ++ ys)) ≡ held_run (held_run h (events_in xs)) (events_in ys)
    run-append = rw events_append (run_on h (events_in xs) (events_in ys))

    pub lines_append : (k : ℕ) → piece_lines h k (xs ++ ys) ≡ piece_lines h k xs ++ piece_lines (held_run h (events_in xs)) (k + length (events_in xs)) ys
    unfolding piece_lines
    lines_append k =
        rw (events_append, answers_on h (events_in xs) (events_in ys), ← length-answers h (events_in xs))
        (numbered-append event_line k (held_answers h (events_in xs)) (held_answers (held_run h (events_in xs)) (events_in ys)))

-- any number of whole pieces, then a last one
pub run_in_pieces : (h : Held) (ls : List (List ℕ)) (last : List ℕ) → all whole ls ≡ true → held_run h (events_in (joined ls ++ last)) ≡ held_after h (ls ++ (last ∷ []))
run_in_pieces h [] last w = refl
run_in_pieces h (l ∷ ls) last w =
    let e : 12 * (length l / 12) ≡ length l = eqb-true _ _ (and_l (whole l) (all whole ls) w) in
    rw (append_assoc l (joined ls) last, run-append l (joined ls ++ last) e h)
    (run_in_pieces (held_run h (events_in l)) ls last (and_r (whole l) (all whole ls) w))

pub lines_in_pieces : (h : Held) (k : ℕ) (ls : List (List ℕ)) (last : List ℕ) → all whole ls ≡ true → piece_lines h k (joined ls ++ last) ≡ lines_of h k (ls ++ (last ∷ []))
lines_in_pieces h k [] last w = sym (append-nil (piece_lines h k last))
lines_in_pieces h k (l ∷ ls) last w =
    let e : 12 * (length l / 12) ≡ length l = eqb-true _ _ (and_l (whole l) (all whole ls) w) in
    rw (append_assoc l (joined ls) last, lines_append l (joined ls ++ last) e h k)
    (ap (λ (t : List ℕ). piece_lines h k l ++ t)
    (lines_in_pieces (held_run h (events_in l)) (k + length (events_in l)) ls last (and_r (whole l) (all whole ls) w)))

-- a number is read from the front of a list as from the list, while it stands in it; so is a run of numbers
number_front : (w n : ℕ) (l : List ℕ) (at : ℕ) → at + w ≤ n → number_at w (take n l) at ≡ number_at w l at
unfolding number_at
number_front zero n l at h = refl
number_front (suc w) n l at h = rw (number_front w n l at (omega arith), get_or-take n l (at + w) 0 (omega arith))

numbers_front : (k n : ℕ) (l : List ℕ) (at : ℕ) → at + 4 * k ≤ n → balances_at k (take n l) at ≡ balances_at k l at
unfolding many
numbers_front zero n l at h = refl
numbers_front (suc k) n l at h =
    rw (number_front 4 n l at (omega arith)) (ap (λ (t : List ℕ). number_at 4 l at ∷ t) (numbers_front k n l (at + 4) (omega arith)))

-- the opening bytes are the purse count and the balance bytes behind it
module _ (l : List ℕ) where
  balances_front : leb (get_or l 0 0) 32 ≡ true → balances_in (take (1 + 4 * get_or l 0 0) l) ≡ balances_in l
  unfolding balances_in whole_opening
  balances_front e =
      let n : ℕ = 1 + 4 * get_or l 0 0 in
      let same : get_or (take n l) 0 0 ≡ get_or l 0 0 = get_or-take n l 0 0 (omega arith) in
      ⊎_elim
      (λ (v : leb (1 + 4 * get_or l 0 0) (length l) ≡ true).
      let long : length (take n l) ≡ n = length-take-le n l (leb-true n (length l) v) in
      rw (same, long, e, v, le-leb n n (omega arith)) (numbers_front (get_or l 0 0) n l 1 (omega arith)))
      (λ (v : leb (1 + 4 * get_or l 0 0) (length l) ≡ false).
      let short : length l < n = leb-false n (length l) v in
      ap balances_in (take_all n l (omega arith)))
      (which (leb (1 + 4 * get_or l 0 0) (length l)))

  none_front : leb (get_or l 0 0) 32 ≡ false → balances_in (take 1 l) ≡ balances_in l
  unfolding balances_in whole_opening
  none_front e = rw (get_or-take 1 l 0 0 (omega arith), e)

  pub opening_front : balances_in (opening_bytes l) ≡ balances_in l
  opening_front =
      ⊎_elim
      (λ (e : leb (get_or l 0 0) 32 ≡ true).
      let n : 1 + balance_bytes (get_or l 0 0) ≡ 1 + 4 * get_or l 0 0 = rw e in
      ap (λ (k : ℕ). balances_in (take k l)) n ∙ balances_front e)
      (λ (e : leb (get_or l 0 0) 32 ≡ false).
      let n : 1 + balance_bytes (get_or l 0 0) ≡ 1 = rw e in
      ap (λ (k : ℕ). balances_in (take k l)) n ∙ none_front e)
      (which (leb (get_or l 0 0) 32))

-- the listing of an input that comes as its opening bytes, whole pieces, and a last piece
pub listing_in_pieces : (l : List ℕ) (ls : List (List ℕ)) (last : List ℕ) → all whole ls ≡ true → event_bytes l ≡ joined ls ++ last
    → listing_of l ≡ in_pieces (opened_by (opening_bytes l)) (ls ++ (last ∷ []))
unfolding listing_of
listing_in_pieces l ls last w e =
    rw (opening_front l, ← lines_in_pieces (opened_by l).held 1 ls last w, ← run_in_pieces (opened_by l).held ls last w, ← e)
