-- An abort of a purse of the table is never refused, leaves that purse idle and no idle purse busy. So after an abort to every purse all
-- are idle.
-- Assumes nothing.
use Prim.Native.Nat.{ℕ, ◌≤◌, ◌<◌}
use mathlib.Core.Path.{◌≡◌, refl, ◌∙◌, ap}
use mathlib.Core.Bool.{true, false, ◌||◌}
use mathlib.Core.Logic.{◌⊎◌, inl, inr, ⊎_elim}
use mathlib.Core.List.{List, [], ◌∷◌, map}
use lib.ListN.{length, get_or-eq_default, length-set}
use lib.Dec.{ltb, eqb}
use native.Mathlib.Omega.{arith}
use borrow.Author.Tests.{ltb-true, ltb-false, eqb-true, lt-leb, le-leb, le-ltb}
use Rattle.bigendian.specs.Bytes.{number_at}
use Rattle.purse.specs.declared.Purse.{Purse}
use Rattle.purse.specs.Step.{abort_number, abort_by, aborted}
use Rattle.purse.specs.Lists.{all, among}
use Rattle.purse.specs.Purse.{zero_purse}
use Rattle.purse.proofs.Bools.{and_l, and_r, either, which}
use Rattle.rules.specs.Bench.{Bench, purse_at}
use Rattle.rules.specs.Table.{table_ok}
use Rattle.rules.specs.Steps.{Answer, with_purse, acting, step}
use Rattle.rules.specs.Events.{decoded}
use Rattle.rules.specs.Run.{run, answers}
use Rattle.rules.specs.Paid.{abort_of}
use Rattle.rules.proofs.Facts.{Table, is_table}
use Rattle.rules.proofs.Puts.{put_cases}
use Rattle.rules.proofs.Kept.{keep-step}

aborted-idle : (q : Purse) → (aborted q).status ≡ 0
aborted-idle q =
    ⊎_elim
    (λ (e : eqb q.status 0 ≡ true). rw e (eqb-true _ _ e))
    (λ (e : eqb q.status 0 ≡ false).
    ⊎_elim (λ (f : eqb q.status 1 ≡ true). rw (e, f)) (λ (f : eqb q.status 1 ≡ false). rw (e, f)) (which (eqb q.status 1)))
    (which (eqb q.status 0))

-- an abort at a purse of a well-formed table
pub abort_step : (b : Bench) (p : ℕ) → table_ok b ≡ true → p < length b.purses → step b (abort_of p) ≡ record { answer = 0; bench = with_purse b p (aborted (purse_at b p)) }
unfolding step decoded number_at acting abort_by abort_number
abort_step b p w hp =
    let t : Table b = is_table b w in
    rw (w, lt-leb (length b.purses) p hp, t.well p hp, le-ltb 31 p (omega (arith, t.few)))

-- an abort at no purse of the table changes nothing
abort_none : (b : Bench) (p : ℕ) → table_ok b ≡ true → length b.purses ≤ p → (step b (abort_of p)).bench ≡ b
unfolding step decoded number_at acting
abort_none b p w hp = rw (w, le-leb (length b.purses) p hp)

-- and it leaves as many purses as there were
pub abort_length : (b : Bench) (p : ℕ) → table_ok b ≡ true → length (step b (abort_of p)).bench.purses ≡ length b.purses
abort_length b p w =
    ⊎_elim
    (λ (e : ltb p (length b.purses) ≡ true). rw (abort_step b p w (ltb-true _ _ e)) (length-set b.purses p (aborted (purse_at b p))))
    (λ (e : ltb p (length b.purses) ≡ false). ap (λ (c : Bench). length c.purses) (abort_none b p w (ltb-false _ _ e)))
    (which (ltb p (length b.purses)))

pub aborts_length : (b : Bench) (ps : List ℕ) → table_ok b ≡ true → length (run b (map abort_of ps)).purses ≡ length b.purses
aborts_length b [] w = refl
aborts_length b (p ∷ ps) w = aborts_length (step b (abort_of p)).bench ps (keep-step b (abort_of p) w) ∙ abort_length b p w

-- idle stays idle
abort_idle : (b : Bench) (p : ℕ) → table_ok b ≡ true → (k : ℕ) → (k ≡ p) ⊎ ((purse_at b k).status ≡ 0) → k < length b.purses → (purse_at (step b (abort_of p)).bench k).status ≡ 0
abort_idle b p w k h hk =
    ⊎_elim
    (λ (e : ltb p (length b.purses) ≡ true).
    let hp : p < length b.purses = ltb-true _ _ e in
    rw (abort_step b p w hp)
    (put_cases b p (aborted (purse_at b p)) hp k (λ (o n : Purse). (k ≡ p) ⊎ (o.status ≡ 0) → n.status ≡ 0)
    (λ e i. aborted-idle (purse_at b p))
    (λ e r i. ⊎_elim (λ (j : k ≡ p). absurd (e j)) (λ (j : r.status ≡ 0). j) i)
    h))
    (λ (e : ltb p (length b.purses) ≡ false).
    let hp : length b.purses ≤ p = ltb-false _ _ e in
    rw (abort_none b p w hp)
    (⊎_elim (λ (j : k ≡ p). absurd (omega arith)) (λ (j : (purse_at b k).status ≡ 0). j) h))
    (which (ltb p (length b.purses)))

pub aborts_idle : (b : Bench) (ps : List ℕ) → table_ok b ≡ true → (k : ℕ) → k < length b.purses → (among eqb k ps ≡ true) ⊎ ((purse_at b k).status ≡ 0) → (purse_at (run b (map abort_of ps)) k).status ≡ 0
aborts_idle b [] w k hk h = ⊎_elim (λ (e : false ≡ true). let z : ◌≡◌ {A = ℕ} 0 1 = cc in absurd (omega arith)) (λ (e : (purse_at b k).status ≡ 0). e) h
aborts_idle b (p ∷ ps) w k hk h =
    aborts_idle (step b (abort_of p)).bench ps (keep-step b (abort_of p) w) k (rw (abort_length b p w) hk)
    (⊎_elim
    (λ (e : (eqb k p || among eqb k ps) ≡ true).
    ⊎_elim (λ (f : eqb k p ≡ true). inr (abort_idle b p w k (inl (eqb-true _ _ f)) hk)) (λ (f : among eqb k ps ≡ true). inl f)
    (either (eqb k p) (among eqb k ps) e))
    (λ (e : (purse_at b k).status ≡ 0). inr (abort_idle b p w k (inr e) hk))
    h)

-- each abort at a purse of the table is answered 0
pub aborts_done : (b : Bench) (ps : List ℕ) → table_ok b ≡ true → all (λ (p : ℕ). ltb p (length b.purses)) ps ≡ true → answers b (map abort_of ps) ≡ map (λ (p : ℕ). 0) ps
aborts_done b [] w h = refl
aborts_done b (p ∷ ps) w h =
    let hp : p < length b.purses = ltb-true _ _ (and_l (ltb p (length b.purses)) (all (λ (p : ℕ). ltb p (length b.purses)) ps) h) in
    let e : (step b (abort_of p)).answer ≡ 0 = ap (λ (a : Answer). a.answer) (abort_step b p w hp) in
    let r : answers (step b (abort_of p)).bench (map abort_of ps) ≡ map (λ (p : ℕ). 0) ps =
    aborts_done (step b (abort_of p)).bench ps (keep-step b (abort_of p) w)
    (rw (abort_length b p w) (and_r (ltb p (length b.purses)) (all (λ (p : ℕ). ltb p (length b.purses)) ps) h))
    in
    λ i. e i ∷ r i

-- past the table there is no busy purse
pub beyond : (b : Bench) (k : ℕ) → length b.purses ≤ k → (purse_at b k).status ≡ 0
beyond b k h = ap (λ (q : Purse). q.status) (get_or-eq_default b.purses zero_purse h)
