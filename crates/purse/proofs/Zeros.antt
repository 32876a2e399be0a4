-- `default` of details, of a message and of a record is the all-zero one. Assumes nothing.
use Rattle.std.proofs.Common.{◌≡◌, arith, rules}
use Rattle.std.proofs.lemmas.Grind.{common_steps}
use Rattle.purse.specs.declared.Details.{Details}
use Rattle.purse.specs.declared.Message.{Message}
use Rattle.purse.specs.declared.Purse.{Purse}
use Rattle.purse.specs.Details.{zero_details, zero_message}
use Rattle.purse.specs.Purse.{zero_purse}
use Rattle.purse.specs.contracts.DetailsDefault.TheImpl as details
use Rattle.purse.specs.contracts.MessageDefault.TheImpl as messages
use Rattle.purse.specs.contracts.PurseDefault.TheImpl as purses

pub default_details : (d : Details) → (details.ghosts).is_default d → d ≡ zero_details
default_details d e = search rules

pub default_message : (m : Message) → (messages.ghosts).is_default m → m ≡ zero_message
default_message m e = search rules

pub default_purse : (p : Purse) → (purses.ghosts).is_default p → p ≡ zero_purse
default_purse p e = grind (arith, common_steps)
