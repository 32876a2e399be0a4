-- What was paid, what arrived and what was added in a run, what is matched, the claims figure, and the stop of a purse.
use Rattle.std.specs.Prelude.{ℕ, Bool, ◌&&◌, cond, List, [], ◌∷◌, ◌++◌, length, leb, eqb}
use Rattle.purse.specs.declared.Details.{Details}
use Rattle.purse.specs.declared.Message.{Message}
use Rattle.purse.specs.Lists.{keep, total, sum_to}
use Rattle.purse.specs.Details.{request, value}
use Rattle.rules.specs.declared.Event.{Event}
use Rattle.rules.specs.declared.Event.TheVariants.{Malformed, StartFrom, StartTo, Deliver, Abort, Lose, Collect, Issue, Load}
use Rattle.rules.specs.Bench.{Bench, message_at, logged_by, has_logged}
use Rattle.rules.specs.Events.{decoded}
use Rattle.rules.specs.Steps.{step}

-- an amount that came into a purse from outside: an issue's first balance, or a load
pub record Addition : Type 0 where
  pub purse : ℕ
  pub amount : ℕ

-- what an event moved: the payments that it paid, those that arrived by it, and what it added
pub record Effect : Type 0 where
  pub paid : List Details
  pub arrived : List Details
  pub added : List Addition

abbrev pub nothing : Effect
nothing = record { paid = []; arrived = []; added = [] }

-- "A payment is paid at the delivery of its request [..], and arrives at the delivery of its value"
abbrev pub delivers : Message → Effect
delivers m =
    record {
      paid = cond (eqb m.kind request) (m.details ∷ []) [];
      arrived = cond (eqb m.kind value) (m.details ∷ []) [];
      added = [];
    }

-- "issue balances and loads" (02, A5)
abbrev pub adds : ℕ → ℕ → Effect
adds p v = record { paid = []; arrived = []; added = record { purse = p; amount = v } ∷ [] }

-- what an event moves where it is done
abbrev pub effect_of : Bench → Event → Effect
effect_of b Malformed = nothing
effect_of b (StartFrom p o s a) = nothing
effect_of b (StartTo p o s a) = nothing
effect_of b (Deliver p i) = delivers (message_at b i)
effect_of b (Abort p) = nothing
effect_of b (Lose i) = nothing
effect_of b (Collect p) = nothing
effect_of b (Issue class v) = adds (length b.purses) v.0
effect_of b (Load p a) = adds p.0 a.0

-- done: "that answers 0 or 1"
unfoldable pub effect_by : Bench → List ℕ → Effect
effect_by b e = cond (leb (step b e).answer 1) (effect_of b (decoded e)) nothing

-- one part of what the events of a run moved
abbrev pub gathered : {A : Type 0} → (Effect → List A) → Bench → List (List ℕ) → List A
gathered part b [] = []
gathered part b (e ∷ es) = part (effect_by b e) ++ gathered part (step b e).bench es

abbrev pub paid : Bench → List (List ℕ) → List Details
paid = gathered (λ (x : Effect). x.paid)

abbrev pub arrived : Bench → List (List ℕ) → List Details
arrived = gathered (λ (x : Effect). x.arrived)

-- "In demand 3 the opening balance, and the opening sum, take in issue balances and loads so far": what a run added
abbrev pub added : Bench → List (List ℕ) → List Addition
added = gathered (λ (x : Effect). x.added)

-- in all it is `total sum_of`, to purse p `added_to p`
abbrev pub sum_of : Addition → ℕ
sum_of x = x.amount

abbrev pub added_to : ℕ → List Addition → ℕ
added_to p l = total sum_of (keep (λ (x : Addition). eqb x.purse p) l)

abbrev pub amount_of : Details → ℕ
amount_of d = d.amount.0

-- of a list of payments: the sum that purse p pays, the sum that it gets
abbrev pub paid_out : ℕ → List Details → ℕ
paid_out p l = total amount_of (keep (λ (d : Details). eqb d.payer.0 p) l)

abbrev pub taken_in : ℕ → List Details → ℕ
taken_in p l = total amount_of (keep (λ (d : Details). eqb d.payee.0 p) l)

-- "Matched: the payer and the payee have each logged the same details, in the purse or in the archive"; of purse p, those details
-- that it has logged as payer and that their payee has logged too, each once
abbrev pub matched_with : Bench → ℕ → Details → Bool
matched_with b p d = eqb d.payer.0 p && has_logged b d.payee.0 d

abbrev pub matched : Bench → ℕ → List Details
matched b p = keep (matched_with b p) (logged_by b p)

-- Claims, the figure printed as owed to payers: the sum over every matched pair, "wherever the two entries stand" (02, A1)
unfoldable pub claims : Bench → ℕ
claims b = sum_to (length b.purses) (λ (p : ℕ). total amount_of (matched b p))

-- "To stop a purse is to give it an abort event"
abbrev pub abort_of : ℕ → List ℕ
abort_of p = 4 ∷ p ∷ 0 ∷ 0 ∷ 0 ∷ 0 ∷ 0 ∷ 0 ∷ 0 ∷ 0 ∷ 0 ∷ 0 ∷ []
