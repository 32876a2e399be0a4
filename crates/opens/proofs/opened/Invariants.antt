-- `opens::opened` meets its contract: the loop's invariant: the table is the purses of the balances passed, zero behind them.
-- Assumes nothing.
use Rattle.rules.specs.Bench.{opened_at}
use Rattle.purse.specs.Purse.{zero_purse}
use Rattle.purse.specs.Lists.{padded}
use lib.ListN.{take}
use mathlib.Core.List.{map}
use mathlib.Core.Path.{◌≡◌}
use Rattle.opens.proofs.opened.Given as goal

abbrev pub invariant-loop-i : goal.invariant-loop-i
invariant-loop-i l = l.table ≡ padded 32 zero_purse (map opened_at (take l.i l.balances))
