-- "Two results that both satisfy it are proved equal": a contract that is an equation for its result, or one for the result and one for the
-- content of each lent part, leaves one result and one content. Both results are the same right side, and so equal. The laws are for contracts
-- of one, two, three and four equations; then the card's step and the test of a purse's rules, their contracts written out. Assumes nothing.
use mathlib.Core.Path.{◌≡◌, sym, ◌∙◌}
use mathlib.Core.Bool.{Bool}
use Rattle.purse.specs.declared.Name.{Name}
use Rattle.purse.specs.declared.Purse.{Purse}
use Rattle.purse.specs.declared.CardAnswer.{CardAnswer}
use Rattle.purse.specs.declared.CardEvent.{CardEvent}
use Rattle.purse.specs.Purse.{well_formed}
use Rattle.purse.specs.Card.{step_by}

pub one : {A : Type 0} {x r s : A} → r ≡ x → s ≡ x → r ≡ s
one e f = e ∙ sym f

pub two : {A B : Type 0} {x r s : A} {l a b : B} → (r ≡ x) × (a ≡ l) → (s ≡ x) × (b ≡ l) → (r ≡ s) × (a ≡ b)
two e f = (one e.0 f.0, one e.1 f.1)

pub three : {A B C : Type 0} {x r s : A} {l a b : B} {m c d : C}
    → (r ≡ x) × (a ≡ l) × (c ≡ m)
    → (s ≡ x) × (b ≡ l) × (d ≡ m)
    → (r ≡ s) × (a ≡ b) × (c ≡ d)
three e f = (one e.0 f.0, one e.1 f.1, one e.2 f.2)

pub four : {A B C D : Type 0} {x r s : A} {l a b : B} {m c d : C} {n p q : D}
    → (r ≡ x) × (a ≡ l) × (c ≡ m) × (p ≡ n)
    → (s ≡ x) × (b ≡ l) × (d ≡ m) × (q ≡ n)
    → (r ≡ s) × (a ≡ b) × (c ≡ d) × (p ≡ q)
four e f = (one e.0 f.0, one e.1 f.1, one e.2 f.2, one e.3 f.3)

pub step_one : (purse : Purse) (own : Name) (event : CardEvent) (r s : CardAnswer) → r ≡ step_by purse own event → s ≡ step_by purse own event → r ≡ s
step_one purse own event r s = one

pub well_formed_one : (p : Purse) (own : Name) (r s : Bool) → r ≡ well_formed own p → s ≡ well_formed own p → r ≡ s
well_formed_one p own r s = one
