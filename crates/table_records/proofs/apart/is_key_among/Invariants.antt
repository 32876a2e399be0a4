-- Each turn of the loop compares a key more. Assumes nothing.
use mathlib.Core.Path.{◌≡◌}
use lib.ListN.{take}
use lib.Dec.{eqb}
use Rattle.purse.specs.Lists.{among}
use Rattle.table_records.proofs.apart.is_key_among.Given as goal

abbrev pub invariant-loop-k : goal.invariant-loop-k
invariant-loop-k l = l.hit ≡ among eqb l.key (take l.k-index l.keys)
