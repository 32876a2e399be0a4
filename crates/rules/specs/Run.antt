-- Opening, and a run of events.
use Rattle.std.specs.Prelude.{ℕ, ◌&&◌, not, List, [], ◌∷◌, map, length, leb}
use Rattle.purse.specs.Lists.{all}
use Rattle.purse.specs.Tests.{◌⇒◌, first}
use Rattle.purse.specs.Purse.{ceiling}
use Rattle.rules.specs.Bench.{Bench, opened_at}
use Rattle.rules.specs.Steps.{step}

-- "20, 21: not 1 to 32 purses; a balance above 5,000,000"
unfoldable pub opening_number : List ℕ → ℕ
opening_number bs =
    first
    ((not (leb 1 (length bs) && leb (length bs) 32) ⇒ 20)
    ∷ (not (all (λ (b : ℕ). leb b (ceiling (opened_at b))) bs) ⇒ 21)
    ∷ [])

-- "An opened bench: given balances, next sequence number 1, all idle, no entries, no messages."
abbrev pub opened : List ℕ → Bench
opened bs = record { purses = map opened_at bs; messages = []; archive = [] }

-- the bench after a list of events
abbrev pub run : Bench → List (List ℕ) → Bench
run b [] = b
run b (e ∷ es) = run (step b e).bench es

-- the answers to a list of events
abbrev pub answers : Bench → List (List ℕ) → List ℕ
answers b [] = []
answers b (e ∷ es) = (step b e).answer ∷ answers (step b e).bench es
