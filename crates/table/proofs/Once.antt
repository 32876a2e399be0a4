-- "No purse has the same details twice among its running details, its log and its archive entries". Running details and log are apart
-- where the record alone is well formed; the archive entries of each purse are apart where no two entries are equal; and what is left
-- is that no archive entry of the purse stands among the first two.
-- Assumes nothing.
use Prim.Native.Nat.{ℕ, ◌≤◌, ◌<◌}
use mathlib.Core.Path.{◌≡◌, refl, sym, ◌∙◌, ap}
use mathlib.Core.Bool.{Bool, true, false, ◌&&◌, not}
use mathlib.Core.Logic.{⊎_elim}
use mathlib.Core.List.{List, [], ◌∷◌, ◌++◌, append_assoc}
use lib.ListN.{length, get_or}
use lib.Dec.{ltb, eqb}
use native.Mathlib.Omega.{arith}
use borrow.Author.Tests.{ltb-true, eqb-true, eq-eqb, not-true}
use Rattle.purse.specs.declared.Name.{Name}
use Rattle.purse.specs.declared.Details.{Details}
use Rattle.purse.specs.declared.Purse.{Purse}
use Rattle.purse.specs.Lists.{all, among, distinct}
use Rattle.purse.specs.Details.{zero_details, same_details}
use Rattle.purse.specs.Purse.{well_formed}
use Rattle.purse.proofs.Bools.{and_l, and_r, and_i, not_i, which}
use Rattle.purse.proofs.Lists.{among_none, distinct-all, distinct_append}
use Rattle.purse.proofs.Payments.{absent_at}
use Rattle.purse.proofs.Log.{used_at_lem, log_long}
use Rattle.purse.proofs.Rules.{wf_log, wf_bounds}
use Rattle.desk.specs.declared.Entry.{Entry}
use Rattle.desk.specs.Desk.{same_entry}
use Rattle.rules.specs.Bench.{Bench, purse_at, running, kept, archived_by}
use Rattle.rules.specs.Table.{once_ok}
use Rattle.table_records.specs.Records.{when, holds, entry_alone}
use Rattle.table_records.proofs.Same.{turn_number, turn_details}

-- running details and log of a well-formed record
module _ (own : Name) (p : Purse) (w : well_formed own p ≡ true) where
  fits : p.logged ≤ length p.log
  fits = omega (arith, (wf_bounds own p w).logged, log_long own p (wf_log own p w))

  kept_apart : distinct same_details (kept p) ≡ true
  kept_apart =
      distinct-all same_details turn_details p.log zero_details p.logged fits (λ (i j : ℕ) (g : i < p.logged) (q : j < i).
      absent_at p.log (get_or p.log i zero_details) i j
      (used_at_lem own p (wf_log own p w) i (omega (arith, (wf_bounds own p w).logged)) g).alone q)

  running_apart : among same_details p.details (kept p) ≡ false
  running_apart =
      among_none same_details p.details p.log zero_details p.logged fits (λ (j : ℕ) (g : j < p.logged).
      (used_at_lem own p (wf_log own p w) j (omega (arith, (wf_bounds own p w).logged)) g).other)

  pub record_apart : distinct same_details (running p ++ kept p) ≡ true
  record_apart =
      ⊎_elim
      (λ (e : eqb p.status 0 ≡ true). rw e kept_apart)
      (λ (e : eqb p.status 0 ≡ false). rw e (and_i (not_i _ running_apart) kept_apart))
      (which (eqb p.status 0))

-- an entry stands among others just where its details stand among those of its purse
among_archived : (e : Entry) (es : List Entry) → among same_entry e es ≡ among same_details e.details (archived_by e.by.0 es)
unfolding same_entry
among_archived e [] = refl
among_archived e (f ∷ es) =
    ⊎_elim
    (λ (k : eqb f.by.0 e.by.0 ≡ true). rw (turn_number e.by.0 f.by.0, k, among_archived e es))
    (λ (k : eqb f.by.0 e.by.0 ≡ false). rw (turn_number e.by.0 f.by.0, k) (among_archived e es))
    (which (eqb f.by.0 e.by.0))

-- no two entries equal: the entries of each purse apart, and back
pub archived_apart : (es : List Entry) → distinct same_entry es ≡ true → (i : ℕ) → distinct same_details (archived_by i es) ≡ true
archived_apart [] h i = refl
archived_apart (e ∷ es) h i =
    let s : distinct same_details (archived_by i es) ≡ true = archived_apart es (and_r (not (among same_entry e es)) (distinct same_entry es) h) i in
    ⊎_elim
    (λ (k : eqb e.by.0 i ≡ true).
    let a : among same_details e.details (archived_by e.by.0 es) ≡ false =
    sym (among_archived e es) ∙ not-true _ (and_l (not (among same_entry e es)) (distinct same_entry es) h) in
    rw k (and_i (not_i _ (rw (eqb-true e.by.0 i k) at a)) s))
    (λ (k : eqb e.by.0 i ≡ false). rw k s)
    (which (eqb e.by.0 i))

later_apart : (e : Entry) (es : List Entry) (i : ℕ) → distinct same_details (archived_by i (e ∷ es)) ≡ true → distinct same_details (archived_by i es) ≡ true
later_apart e es i h =
    ⊎_elim
    (λ (k : eqb e.by.0 i ≡ true).
    let s : (not (among same_details e.details (archived_by i es)) && distinct same_details (archived_by i es)) ≡ true = rw k at h in
    and_r (not (among same_details e.details (archived_by i es))) _ s)
    (λ (k : eqb e.by.0 i ≡ false). rw k at h)
    (which (eqb e.by.0 i))

by_below : (n : ℕ) (e : Entry) → entry_alone n e ≡ true → e.by.0 < n
unfolding entry_alone
by_below n e h = ltb-true _ _ (and_l (ltb e.by.0 n) _ h)

pub apart_archived : (n : ℕ) (es : List Entry) → all (entry_alone n) es ≡ true → ((i : ℕ) → i < n → distinct same_details (archived_by i es) ≡ true) → distinct same_entry es ≡ true
apart_archived n [] a h = refl
apart_archived n (e ∷ es) a h =
    let s : distinct same_details (archived_by e.by.0 (e ∷ es)) ≡ true = h e.by.0 (by_below n e (and_l (entry_alone n e) (all (entry_alone n) es) a)) in
    let t : (not (among same_details e.details (archived_by e.by.0 es)) && distinct same_details (archived_by e.by.0 es)) ≡ true =
    rw (eq-eqb e.by.0 e.by.0 refl) at s in
    let u : not (among same_entry e es) ≡ true = rw (among_archived e es) (and_l _ (distinct same_details (archived_by e.by.0 es)) t) in
    and_i u
    (apart_archived n es (and_r (entry_alone n e) (all (entry_alone n) es) a) (λ (i : ℕ) (g : i < n). later_apart e es i (h i g)))

-- a test of each archive entry of purse i
pub all_archived : (f : Details → Bool) (i : ℕ) (es : List Entry) → all f (archived_by i es) ≡ all (λ (e : Entry). when (eqb e.by.0 i) (f e.details)) es
all_archived f i [] = refl
all_archived f i (e ∷ es) =
    ⊎_elim
    (λ (k : eqb e.by.0 i ≡ true). rw (k, all_archived f i es))
    (λ (k : eqb e.by.0 i ≡ false). rw k (all_archived f i es))
    (which (eqb e.by.0 i))

-- the three parts of the rule
pub once_parts : (b : Bench) (i : ℕ) → once_ok b i ≡ (distinct same_details (running (purse_at b i) ++ kept (purse_at b i)) && distinct same_details (archived_by i b.archive) && all (λ (e : Entry). when (eqb e.by.0 i) (not (holds (purse_at b i) e.details))) b.archive)
unfolding once_ok holds
once_parts b i =
    let p : Purse = purse_at b i in
    ap (distinct same_details) (sym (append_assoc (running p) (kept p) (archived_by i b.archive)))
    ∙ distinct_append same_details turn_details (running p ++ kept p) (archived_by i b.archive)
    ∙ ap (λ (t : Bool). distinct same_details (running p ++ kept p) && distinct same_details (archived_by i b.archive) && t)
    (all_archived (λ (d : Details). not (among same_details d (running p ++ kept p))) i b.archive)
