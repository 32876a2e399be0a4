-- `==` of two details and of two messages is `same_details` and `same_message`: equal in every field. Assumes nothing.
use Rattle.std.proofs.Common.{◌≡◌}
use Rattle.std.proofs.Math.Bool.{and_assoc}
use Rattle.purse.specs.declared.Details.{Details}
use Rattle.purse.specs.declared.Message.{Message}
use Rattle.purse.specs.Details.{same_details, same_message}
use Rattle.purse.specs.contracts.DetailsPartialEq.TheImpl as details
use Rattle.purse.specs.contracts.MessagePartialEq.TheImpl as messages

pub equal_details : (d e : Details) → (details.ghosts).eq d e ≡ same_details d e
unfolding same_details
equal_details d e = simp and_assoc

pub equal_messages : (m k : Message) → (messages.ghosts).eq m k ≡ same_message m k
unfolding same_message same_details
equal_messages m k = simp and_assoc
