-- "Only the first that applies, in this order": a list of tests, each beside its number in the documents' tables.
use Rattle.std.specs.Prelude.{ℕ, Bool, cond, List, [], ◌∷◌, eqb}

pub record Test : Type 0 where
  pub applies : Bool
  pub number : ℕ

infix 20 ◌⇒◌
abbrev pub ◌⇒◌ : Bool → ℕ → Test
t ⇒ n = record { applies = t; number = n }

-- the number of the first test that applies; 0 where none does
abbrev pub first : List Test → ℕ
first [] = 0
first (t ∷ ts) = cond t.applies t.number (first ts)

-- one test after others that found a number, or 0
abbrev pub after : ℕ → Bool → ℕ → ℕ
after found t n = cond (eqb found 0) (cond t n 0) found

-- the tests taken one by one, top to bottom
abbrev pub walked : ℕ → List Test → ℕ
walked found [] = found
walked found (t ∷ ts) = walked (after found t.applies t.number) ts
