-- `trips::fits::all_fit` meets its contract. The fact is gathered one by one.
-- Assumes nothing.
use lib.ListN.{take}
use Rattle.bigendian.specs.Bytes.{All}
use Rattle.trips.proofs.fits.all_fit.Given as goal

abbrev pub invariant-loop-x : goal.invariant-loop-x
invariant-loop-x g l = All g.T.Fit.IsFit (take l.x-index l.xs)
