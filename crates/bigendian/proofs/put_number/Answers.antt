-- `bigendian::put_number` meets its contract. The library's four bytes are those of the definition.
-- Assumes nothing.
use native.Mathlib.Nat.{div-div-eq-div-mul}
use Rattle.bigendian.specs.Bytes.{big}
use Rattle.bigendian.proofs.put_number.Goals as goal

pub returns : goal.returns
unfolding big
returns c = simp div-div-eq-div-mul cc
