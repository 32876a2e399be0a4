-- An opened bench, purse by purse: the table after one balance more, and the whole.
-- Assumes nothing.
use Prim.Native.Nat.{ℕ, ◌+◌, ◌<◌, ◌≤◌}
use mathlib.Core.Path.{◌≡◌, ◌∙◌, sym, ap}
use mathlib.Core.List.{List, [], ◌∷◌, ◌++◌, map, map-append}
use lib.ListN.{length, get_or, set, take, length-map}
use lib.Seq.{length-take-le, take-suc, take_all}
use native.Mathlib.Numerals.{add-one}
use native.Mathlib.Omega.{arith}
use Rattle.purse.specs.declared.Purse.{Purse}
use Rattle.purse.specs.Lists.{padded}
use Rattle.purse.specs.Purse.{zero_purse}
use Rattle.purse.proofs.Padded.{push_padded}
use Rattle.desk.specs.declared.Desk.{Desk}
use Rattle.desk.specs.Desk.{opened_desk}
use Rattle.rules.specs.Bench.{opened_at}
use Rattle.rules.specs.Run.{opening_number, opened}
use Rattle.rules.specs.Laid.{laid}
use Rattle.rules.proofs.Opened.{opens}

-- a bench that is opened has at most 32 purses
pub few : (bs : List ℕ) → 0 ≡ opening_number bs → length bs ≤ 32
few bs e = (opens bs (sym e)).few

pub table_more : (bs : List ℕ) (i : ℕ) → i < length bs → length bs ≤ 32 → set (padded 32 zero_purse (map opened_at (take i bs))) i (opened_at (get_or bs i 0)) ≡ padded 32 zero_purse (map opened_at (take (i + 1) bs))
table_more bs i h few =
    let p : Purse = opened_at (get_or bs i 0) in
    let l : List Purse = map opened_at (take i bs) in
    let n : length l ≡ i = length-map (take i bs) opened_at ∙ length-take-le i bs (omega arith) in
    let t : take (i + 1) bs ≡ take i bs ++ (get_or bs i 0 ∷ []) = rw (add-one i) (take-suc bs i 0 h) in
    ap (λ (k : ℕ). set (padded 32 zero_purse l) k p) (sym n)
    ∙ (push_padded 32 zero_purse l p (omega arith)
    ∙ ap (padded 32 zero_purse) (sym (ap (map opened_at) t ∙ map-append opened_at (take i bs) (get_or bs i 0 ∷ []))))

pub opened_laid : (bs : List ℕ) (i : ℕ) (t : List Purse) (d : Desk) → length bs ≤ i → t ≡ padded 32 zero_purse (map opened_at (take i bs)) → d ≡ opened_desk (length bs) → record { table = t; desk = d } ≡ laid (opened bs)
opened_laid bs i t d h e f =
    let a : t ≡ padded 32 zero_purse (map opened_at bs) = e ∙ ap (λ (l : List ℕ). padded 32 zero_purse (map opened_at l)) (take_all i bs h) in
    let n : length bs ≡ length (map opened_at bs) = sym (length-map bs opened_at) in
    let g : d ≡ opened_desk (length (map opened_at bs)) = f ∙ ap opened_desk n in
    λ k. record { table = a k; desk = g k }
