-- What is asked for, told to the card and settled, from what is seen of the desk, is the step of an event at its record (`act_on`): each is as in
-- the definition. Assumes nothing.
use mathlib.Core.Path.{◌≡◌}
use Rattle.purse.specs.declared.Purse.{Purse}
use Rattle.refusals.specs.Heads.{head_of}
use Rattle.turns.specs.declared.Turned.{Turned}
use Rattle.desk.specs.declared.Desk.{Desk}
use Rattle.rules.specs.declared.Event.{Event}
use Rattle.asks.specs.declared.Asked.{Asked}
use Rattle.asks.specs.Asks.{seen_at, asked}
use Rattle.acts.specs.Acts.{told_at, change_of, settled, act_on}

pub acted : (p : Purse) (d : Desk) (v : Event) (a : Asked) (t : Turned) → a ≡ asked (seen_at d v) v → t ≡ told_at (head_of p) a → settled p d t (change_of p a t.message) ≡ act_on p d v
unfolding act_on
acted p d v a t ask told = rw (told, ask)
