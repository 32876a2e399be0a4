-- The first i balances are laid from place 0 on, zero behind them.
-- Assumes nothing.
use Prim.Native.Nat.{◌+◌, ◌*◌}
use mathlib.Core.Path.{◌≡◌}
use lib.ListN.{length}
use Rattle.bigendian.specs.Bytes.{number_at}
use Rattle.bigendian.proofs.Gets.{Filled}
use Rattle.listing.proofs.input.balances.Given as goal

abbrev pub invariant-loop-i : goal.invariant-loop-i
invariant-loop-i l = record { filled : Filled (number_at 4) 4 l.l 1 32 0 l.all l.i (1 + 4 * l.i); places : length l.all ≡ 32 }
