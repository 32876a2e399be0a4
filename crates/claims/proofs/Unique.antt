-- The claims figure leaves one result: two that both meet its contract, written out here, are equal, by the law of one equation. Assumes nothing.
use mathlib.Core.Path.{◌≡◌}
use Rattle.purse.proofs.Unique.{one}
use Rattle.desk.specs.declared.Held.{Held}
use Rattle.desk.specs.declared.Figure.{Figure}
use Rattle.rules.specs.Laid.{held_claims}

pub claims_one : (held : Held) (r s : Figure) → r ≡ held_claims held → s ≡ held_claims held → r ≡ s
claims_one held r s = one
