-- A run over a piece of input: its whole events of 12 bytes, as many as there are places for answers.
use Rattle.std.specs.Prelude.{ℕ, zero, suc, ◌/◌, cond, List, [], ◌∷◌, ◌++◌, length, take, drop, leb}
use Rattle.desk.specs.declared.Held.{Held}
use Rattle.rules.specs.Laid.{held_run, held_answers}

abbrev pub smaller : ℕ → ℕ → ℕ
smaller a b = cond (leb a b) a b

-- the first n pieces of 12 bytes
abbrev pub pieces : ℕ → List ℕ → List (List ℕ)
pieces zero l = []
pieces (suc n) l = take 12 l ∷ pieces n (drop 12 l)

-- how many events are taken
unfoldable pub taken : List ℕ → List ℕ → ℕ
taken input answers = smaller (length input / 12) (length answers)

-- what a run leaves: how many events it took, what the bench then holds, and the answers' places
pub record Run : Type 0 where
  pub taken : ℕ
  pub held : Held
  pub answers : List ℕ

-- as the events taken singly leave it; places past those taken stay as they were
abbrev pub run_of : Held → List ℕ → List ℕ → Run
run_of h input answers =
    record {
      taken = taken input answers;
      held = held_run h (pieces (taken input answers) input);
      answers = held_answers h (pieces (taken input answers) input) ++ drop (taken input answers) answers;
    }
