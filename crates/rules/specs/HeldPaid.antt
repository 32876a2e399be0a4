-- What Paid.antt says of the lists, said of the lent table and the desk: balances, what was paid and what arrived in a run.
use Rattle.std.specs.Prelude.{ℕ, cond, List, [], ◌∷◌, ◌++◌, get_or, leb}
use Rattle.purse.specs.declared.Details.{Details}
use Rattle.purse.specs.declared.Purse.{Purse}
use Rattle.purse.specs.Purse.{zero_purse}
use Rattle.desk.specs.declared.Held.{Held}
use Rattle.rules.specs.Events.{decoded}
use Rattle.rules.specs.Paid.{Addition, Effect, nothing, effect_of}
use Rattle.rules.specs.Laid.{seen, held_step}

-- the record at a place of the lent table
abbrev pub held_purse : Held → ℕ → Purse
held_purse h p = get_or h.table p zero_purse

abbrev pub held_balance : Held → ℕ → ℕ
held_balance h p = (held_purse h p).balance.0

-- what an event moved, and one part of what the events of a run moved
abbrev pub held_effect : Held → List ℕ → Effect
held_effect h e = cond (leb (held_step h e).answer 1) (effect_of (seen h) (decoded e)) nothing

abbrev pub held_gathered : {A : Type 0} → (Effect → List A) → Held → List (List ℕ) → List A
held_gathered part h [] = []
held_gathered part h (e ∷ es) = part (held_effect h e) ++ held_gathered part (held_step h e).held es

abbrev pub held_paid : Held → List (List ℕ) → List Details
held_paid = held_gathered (λ (x : Effect). x.paid)

abbrev pub held_arrived : Held → List (List ℕ) → List Details
held_arrived = held_gathered (λ (x : Effect). x.arrived)

abbrev pub held_added : Held → List (List ℕ) → List Addition
held_added = held_gathered (λ (x : Effect). x.added)
