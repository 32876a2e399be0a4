-- The card's entry leaves one result and one record where it stands: two that both meet its contract, written out here, are equal, by the law
-- of two equations. Assumes nothing.
use mathlib.Core.Path.{◌≡◌}
use Rattle.purse.specs.declared.Name.{Name}
use Rattle.purse.specs.declared.Purse.{Purse}
use Rattle.purse.specs.Card.{step_by}
use Rattle.purse.proofs.Unique.{two}
use Rattle.card_c.specs.declared.Order.{Order}
use Rattle.card_c.specs.declared.Handed.{Handed}
use Rattle.card_c.specs.Order.{told_of, handed_of}

pub prs_card_one : (purse : Purse) (own : Name) (order : Order) (r s : Handed) (p q : Purse)
    → (r ≡ handed_of (step_by purse own (told_of order))) × (p ≡ (step_by purse own (told_of order)).purse)
    → (s ≡ handed_of (step_by purse own (told_of order))) × (q ≡ (step_by purse own (told_of order)).purse)
    → (r ≡ s) × (p ≡ q)
prs_card_one purse own order r s p q = two
