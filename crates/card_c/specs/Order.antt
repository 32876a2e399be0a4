-- What an order tells a card, and what a card hands out.
use Rattle.std.specs.Prelude.{cond, eqb}
use Rattle.purse.specs.declared.CardAnswer.{CardAnswer}
use Rattle.purse.specs.declared.CardEvent.{CardEvent}
use Rattle.purse.specs.declared.CardEvent.TheVariants.{StartFrom, StartTo, Deliver, Abort, Collect, Load}
use Rattle.card_c.specs.declared.Order.{Order}
use Rattle.card_c.specs.declared.Handed.{Handed}

-- "takes starts, a message, an abort or a collect", and a load (02, A5): the event's kind numbers; a number that names no other order
-- delivers the message, and one that is no message at all is not the expected one (13)
unfoldable pub told_of : Order → CardEvent
told_of o =
    cond (eqb o.kind 1) (StartFrom o.other o.seq o.amount)
    (cond (eqb o.kind 2) (StartTo o.other o.seq o.amount)
    (cond (eqb o.kind 4) Abort
    (cond (eqb o.kind 6) Collect
    (cond (eqb o.kind 8) (Load o.amount)
    (Deliver o.message)))))

-- "it hands out the message to send or the entry collected, or an all-zero one"
abbrev pub handed_of : CardAnswer → Handed
handed_of a = record { answer = a.answer; message = a.message; entry = a.entry }
