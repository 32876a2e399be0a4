-- The rules of a record in the parts in which the code asks them: the head, and the log's used places before its unused ones.
-- `every_split` says why two loops, one behind the other, ask every place of a list. Assumes nothing.
use Prim.Native.Nat.{ℕ, ◌+◌, ◌-◌, ◌≤◌, ◌<◌, min}
use mathlib.Core.Path.{◌≡◌, sym, ◌∙◌, ap}
use mathlib.Core.Bool.{Bool, true, false, ◌&&◌, not, or-false}
use mathlib.Core.Logic.{⊎_elim}
use mathlib.Core.List.{List}
use lib.ListN.{length, drop, get_or, length-drop}
use lib.Seq.{get_or-drop}
use lib.Dec.{ltb}
use native.Mathlib.Omega.{arith}
use borrow.Author.Tests.{lt-ltb, lt-leb, le-ltb, le-leb, ltb-true, ltb-false, eq-eqb}
use Rattle.purse.specs.declared.Name.{Name}
use Rattle.purse.specs.declared.Purse.{Purse}
use Rattle.purse.specs.Lists.{every, all}
use Rattle.purse.specs.Details.{zero_details, same_details, entry_ok, absent}
use Rattle.purse.specs.Purse.{place_ok, log_ok, well_formed}
use Rattle.purse.proofs.Bools.{and_l, and_r, and_i, which, together}
use Rattle.purse.proofs.Lists.{every_at, every-all, all_at, all-places}
use Rattle.form.specs.Form.{unused, head_ok}

-- the places before u asked by g, the members behind them by h
module _ {A : Type 0} (f g : ℕ → Bool) (h : A → Bool) (l : List A) (z : A) (u : ℕ) (fits : u ≤ length l) (before : (i : ℕ) → i < u → f i ≡ g i) (behind : (i : ℕ) → u ≤ i → i < length l → f i ≡ h (get_or l i z)) where
  rest_long : length (drop u l) ≡ length l - u
  rest_long = length-drop u l

  here : (i : ℕ) → u ≤ i → get_or (drop u l) (i - u) z ≡ get_or l i z
  here i k = let e : u + (i - u) ≡ i = omega arith in get_or-drop u l (i - u) z ∙ ap (λ (j : ℕ). get_or l j z) e

  pub every_split : every (length l) f ≡ (every u g && all h (drop u l))
  every_split =
      together (every (length l) f) (every u g && all h (drop u l))
      (λ (t : every (length l) f ≡ true).
      and_i
      (every-all g u (λ (i : ℕ) (k : i < u). sym (before i k) ∙ every_at f (length l) i t (omega arith)))
      (all-places h (drop u l) z (λ (j : ℕ) (k : j < length (drop u l)).
      let in-l : u + j < length l = omega (arith, rest_long) in
      rw (get_or-drop u l j z) (sym (behind (u + j) (omega arith) in-l) ∙ every_at f (length l) (u + j) t in-l))))
      (λ (t : (every u g && all h (drop u l)) ≡ true).
      every-all f (length l) (λ (i : ℕ) (k : i < length l).
      ⊎_elim
      (λ (e : ltb i u ≡ true).
      let q : i < u = ltb-true i u e in
      before i q ∙ every_at g u i (and_l (every u g) (all h (drop u l)) t) q)
      (λ (e : ltb i u ≡ false).
      let q : u ≤ i = ltb-false i u e in
      behind i q k ∙ rw (here i q) at (all_at h (drop u l) z (i - u) (and_r (every u g) (all h (drop u l)) t) (omega (arith, rest_long))))
      (which (ltb i u))))

-- a used place's tests, without the test that it is used
abbrev pub used_at : Name → Purse → ℕ → Bool
used_at own p i =
    entry_ok own p.next (get_or p.log i zero_details) && not (same_details p.details (get_or p.log i zero_details))
    && absent p.log (get_or p.log i zero_details) i

module _ (own : Name) (p : Purse) where
  place_used : (i : ℕ) → i < p.logged → place_ok own p i ≡ used_at own p i
  unfolding place_ok
  place_used i k = rw (lt-ltb i p.logged k, lt-leb p.logged i k, or-false)

  place_unused : (i : ℕ) → p.logged ≤ i → place_ok own p i ≡ unused (get_or p.log i zero_details)
  unfolding place_ok
  place_unused i k = rw (le-ltb i p.logged k, le-leb p.logged i k)

  -- the log: its used places, then the others
  pub log_parts : (u : ℕ) → length p.log ≡ 8 → u ≡ min p.logged 8 → log_ok own p ≡ (every u (used_at own p) && all unused (drop u p.log))
  unfolding log_ok
  log_parts u long e =
      rw (eq-eqb (length p.log) 8 long)
      (ap (λ (n : ℕ). every n (place_ok own p)) (sym long)
      ∙ every_split (place_ok own p) (used_at own p) unused p.log zero_details u (omega arith)
      (λ (i : ℕ) (k : i < u). place_used i (omega arith))
      (λ (i : ℕ) (k : u ≤ i) (q : i < length p.log). place_unused i (omega arith)))

  -- a log without entries
  pub log_empty : length p.log ≡ 8 → p.logged ≡ 0 → log_ok own p ≡ all unused p.log
  log_empty long e = log_parts 0 long (omega arith)

  -- the head, then the log
  pub whole : {h l : Bool} → h ≡ head_ok own p → l ≡ log_ok own p → (h && l) ≡ well_formed own p
  unfolding head_ok well_formed
  whole e k = rw (e, k)
