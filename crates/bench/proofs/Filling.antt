-- A run: the places of the answers fill one by one, the events are the pieces one by one, and every step keeps the rules.
-- Assumes nothing.
use Prim.Native.Nat.{ℕ, zero, suc, ◌+◌, ◌*◌, ◌-◌, ◌/◌, ◌<◌, ◌≤◌, min}
use mathlib.Core.Path.{◌≡◌, refl, ◌∙◌, sym, ap}
use mathlib.Core.Bool.{true, false}
use mathlib.Core.List.{List, [], ◌∷◌, ◌++◌, append_assoc, append-nil}
use lib.ListN.{length, take, drop, set, replicate, length-set, take-append-drop}
use lib.Seq.{drop-drop, drop-set-lt, take_all, take-suc-set}
use native.Mathlib.Numerals.{add-one}
use native.Mathlib.Omega.{arith}
use mathlib.Core.Logic.{inl, inr}
use lib.Dec.{leb}
use borrow.Author.Tests.{leb-true, leb-false, ne_eqb}
use Rattle.purse.proofs.Bools.{which}
use Rattle.desk.specs.declared.Held.{Held}
use Rattle.desk.specs.declared.Answered.{Answered}
use Rattle.rules.specs.Events.{decoded}
use Rattle.rules.specs.Laid.{held_ok, held_step, held_run, held_answers}
use Rattle.rules.proofs.Carried.{held_kept}
use Rattle.asks.specs.Asks.{place_of, delivered_at, asked}
use Rattle.acts.specs.Acts.{told_at, settled, act_on, by_record}
use Rattle.bench.specs.Runs.{smaller, taken, pieces}
use Rattle.acts.proofs.ByRecord.{stays, step_by_record}

-- places filled from the front: those filled are the front of `whole`, the others as they were
pub record Filled (whole rest before now : List ℕ) (i : ℕ) : Type 0 where
  pub front : whole ≡ take i now ++ rest
  pub back : drop i now ≡ drop i before
  pub long : length now ≡ length before

pub fill_none : (whole before : List ℕ) → Filled whole whole before before 0
fill_none whole before = record { front = refl; back = refl; long = refl }

pub fill_one : (whole rest before now : List ℕ) (i v : ℕ) → i < length before → Filled whole (v ∷ rest) before now i → Filled whole rest before (set now i v) (i + 1)
fill_one whole rest before now i v h f =
    let s : take (i + 1) (set now i v) ≡ take i now ++ (v ∷ []) = rw (add-one i) (take-suc-set now i v (omega (arith, f.long))) in
    let d : drop (i + 1) (set now i v) ≡ drop (i + 1) now = drop-set-lt (i + 1) now i v (omega arith) in
    record {
      front = f.front ∙ (sym (append_assoc (take i now) (v ∷ []) rest) ∙ ap (λ (t : List ℕ). t ++ rest) (sym s));
      back = d ∙ (sym (drop-drop 1 i now) ∙ (ap (drop 1) f.back ∙ drop-drop 1 i before));
      long = length-set now i v ∙ f.long;
    }

pub fill_done : (whole before now : List ℕ) (i : ℕ) → Filled whole [] before now i → now ≡ whole ++ drop i before
fill_done whole before now i f =
    sym (take-append-drop i now)
    ∙ (ap (λ (t : List ℕ). take i now ++ t) f.back
    ∙ ap (λ (t : List ℕ). t ++ drop i before) (sym (f.front ∙ append-nil (take i now))))

-- the pieces that are left: the next one, and those behind it
next_piece : (n i : ℕ) (l : List ℕ) → i < n → pieces (n - i) (drop (12 * i) l) ≡ take 12 (drop (12 * i) l) ∷ pieces (n - (i + 1)) (drop (12 * (i + 1)) l)
next_piece n i l h =
    let e : n - i ≡ suc (n - (i + 1)) = omega arith in
    let m : 12 * i + 12 ≡ 12 * (i + 1) = omega arith in
    let d : drop 12 (drop (12 * i) l) ≡ drop (12 * (i + 1)) l = drop-drop 12 (12 * i) l ∙ ap (λ (k : ℕ). drop k l) m in
    ap (λ (k : ℕ). pieces k (drop (12 * i) l)) e ∙ ap (λ (t : List ℕ). take 12 (drop (12 * i) l) ∷ pieces (n - (i + 1)) t) d

-- a run of n events after i of them
pub record Going (held h : Held) (input before now : List ℕ) (n i : ℕ) : Type 0 where
  pub within : i ≤ n
  pub ok : held_ok h ≡ true
  pub run : held_run held (pieces n input) ≡ held_run h (pieces (n - i) (drop (12 * i) input))
  pub said : Filled (held_answers held (pieces n input)) (held_answers h (pieces (n - i) (drop (12 * i) input))) before now i

pub going_start : (held : Held) (input before : List ℕ) (n : ℕ) → held_ok held ≡ true → Going held held input before before n 0
going_start held input before n w =
    let e : n - 0 ≡ n = omega arith in
    record {
      within = omega arith;
      ok = w;
      run = rw e refl;
      said = rw e (fill_none (held_answers held (pieces n input)) before);
    }

pub going_on : (held h : Held) (input before now : List ℕ) (n i : ℕ) (a : Answered) → i < n → n ≤ length before → a ≡ by_record h (decoded (take 12 (drop (12 * i) input))) → Going held h input before now n i → Going held a.held input before (set now i a.answer) n (i + 1)
going_on held h input before now n i a l m e g =
    let piece : List ℕ = take 12 (drop (12 * i) input) in
    let rest : List (List ℕ) = pieces (n - (i + 1)) (drop (12 * (i + 1)) input) in
    let s : held_step h piece ≡ a = step_by_record h piece g.ok ∙ sym e in
    let p : pieces (n - i) (drop (12 * i) input) ≡ piece ∷ rest = next_piece n i input l in
    let r : held_run h (pieces (n - i) (drop (12 * i) input)) ≡ held_run a.held rest =
    ap (held_run h) p ∙ ap (λ (x : Answered). held_run x.held rest) s
    in
    let v : held_answers h (pieces (n - i) (drop (12 * i) input)) ≡ a.answer ∷ held_answers a.held rest =
    ap (held_answers h) p ∙ ap (λ (x : Answered). x.answer ∷ held_answers x.held rest) s
    in
    let f : Filled (held_answers held (pieces n input)) (a.answer ∷ held_answers a.held rest) before now i = rw v at g.said in
    record {
      within = omega arith;
      ok = ap (λ (x : Answered). held_ok x.held) (sym s) ∙ held_kept h piece g.ok;
      run = g.run ∙ r;
      said = fill_one _ _ before now i a.answer (omega arith) f;
    }

pub going_end : (held h : Held) (input before now : List ℕ) (n i : ℕ) → n ≤ i → Going held h input before now n i → (h ≡ held_run held (pieces n input)) × (now ≡ held_answers held (pieces n input) ++ drop n before)
going_end held h input before now n i l g =
    let e : n - i ≡ 0 = omega (arith, g.within) in
    let k : i ≡ n = omega (arith, g.within) in
    let r : held_run held (pieces n input) ≡ h = g.run ∙ ap (λ (m : ℕ). held_run h (pieces m (drop (12 * i) input))) e in
    let f : Filled (held_answers held (pieces n input)) [] before now i = rw e at g.said in
    (sym r, fill_done _ before now i f ∙ ap (λ (m : ℕ). held_answers held (pieces n input) ++ drop m before) k)

-- a table that is not well formed: every event is answered 2, and nothing moves
refused_step : (h : Held) (l : List ℕ) → held_ok h ≡ false → held_step h l ≡ record { answer = 2; held = h }
unfolding held_step
refused_step h l w = rw w

pub refused_run : (h : Held) (ls : List (List ℕ)) → held_ok h ≡ false → held_run h ls ≡ h
refused_run h [] w = refl
refused_run h (l ∷ ls) w = ap (λ (x : Answered). held_run x.held ls) (refused_step h l w) ∙ refused_run h ls w

pub refused_answers : (h : Held) (n : ℕ) (l : List ℕ) → held_ok h ≡ false → held_answers h (pieces n l) ≡ replicate n 2
refused_answers h zero l w = refl
refused_answers h (suc n) l w =
    ap (λ (x : Answered). x.answer ∷ held_answers x.held (pieces n (drop 12 l))) (refused_step h (take 12 l) w)
    ∙ ap (λ (t : List ℕ). 2 ∷ t) (refused_answers h n (drop 12 l) w)

-- as many events are taken as the smaller of two numbers says
pub taken_is : (input answers : List ℕ) → min (length input / 12) (length answers) ≡ taken input answers
unfolding taken
taken_is input answers =
    elim (which (leb (length input / 12) (length answers))) [
      | inl l ↦ rw l (let h : length input / 12 ≤ length answers = leb-true _ _ l in omega arith)
      | inr g ↦ rw g (let h : length answers < length input / 12 = leb-false _ _ g in omega arith)
    ]

-- the events taken are whole, and each has a place
pub taken-fits : (n x y : ℕ) → n ≡ smaller (x / 12) y → (12 * n ≤ x) × (n ≤ y)
taken-fits n x y e =
    elim (which (leb (x / 12) y)) [
      | inl l ↦ let k : n ≡ x / 12 = e ∙ rw l refl in (omega arith, omega (arith, leb-true (x / 12) y l))
      | inr g ↦ let k : n ≡ y = e ∙ rw g refl in (omega (arith, leb-false (x / 12) y g), omega arith)
    ]

-- an event alone is a run of one
pub run_of_one : (h : Held) (l : List ℕ) → length l ≡ 12 → (held_run h (pieces 1 l) ≡ (held_step h l).held) × (held_answers h (pieces 1 l) ≡ (held_step h l).answer ∷ [])
run_of_one h l e = rw (take_all 12 l (omega arith)) (refl, refl)

-- bytes that are not 12 are no event
pub no_event : (h : Held) (l : List ℕ) → held_ok h ≡ true → (length l ≡ 12 → ⊥) → record { answer = 3; held = h } ≡ held_step h l
unfolding decoded by_record act_on settled told_at asked delivered_at place_of
no_event h l w other = rw (ne_eqb (length l) 12 other) (stays h 3 0) ∙ sym (step_by_record h l w)
