-- The card's step: told its own name, it takes a start-from, a start-to, a message, an abort, a collect or a load.
use Rattle.purse.specs.declared.Name.{Name}
use Rattle.purse.specs.declared.Purse.{Purse}
use Rattle.purse.specs.declared.CardAnswer.{CardAnswer}
use Rattle.purse.specs.declared.CardEvent.{CardEvent}
use Rattle.purse.specs.declared.CardEvent.TheVariants.{StartFrom, StartTo, Deliver, Abort, Collect, Load}
use Rattle.purse.specs.Step.{start_from, start_to, deliver_to, abort_by, collect_by, load_by}

abbrev pub step_by : Purse → Name → CardEvent → CardAnswer
step_by p own (StartFrom other s a) = start_from p own other s a
step_by p own (StartTo other s a) = start_to p own other s a
step_by p own (Deliver m) = deliver_to p own m
step_by p own Abort = abort_by p own
step_by p own Collect = collect_by p own
step_by p own (Load a) = load_by p own a
