-- A list of tests after another: the first that applies is the first list's, or the second's where none of the first applies.
-- Assumes nothing.
use mathlib.Core.Path.{◌≡◌, refl}
use mathlib.Core.Bool.{true, false, not, cond}
use mathlib.Core.Logic.{⊎_elim}
use mathlib.Core.List.{List, [], ◌∷◌, ◌++◌}
use lib.Dec.{eqb}
use borrow.Author.Tests.{not-true}
use Rattle.purse.specs.Tests.{Test, first}
use Rattle.purse.proofs.Bools.{and_l, and_r, which}
use Rattle.purse.proofs.Tests.{numbered}

pub first_then : (ts us : List Test) → numbered ts ≡ true → first (ts ++ us) ≡ cond (eqb (first ts) 0) (first us) (first ts)
first_then [] us e = refl
first_then (t ∷ ts) us e =
    ⊎_elim
    (λ (a : t.applies ≡ true).
    let n : eqb t.number 0 ≡ false = not-true _ (and_l (not (eqb t.number 0)) (numbered ts) e) in
    rw (a, n))
    (λ (a : t.applies ≡ false). rw a (first_then ts us (and_r (not (eqb t.number 0)) (numbered ts) e)))
    (which t.applies)
