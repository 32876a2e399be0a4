-- Each turn of the loop adds one entry, each a number of four bytes. Assumes nothing.
use Prim.Native.Nat.{◌*◌, ◌≤◌}
use mathlib.Core.Path.{◌≡◌}
use mathlib.Core.List.{map}
use lib.ListN.{take}
use Rattle.purse.specs.Lists.{total}
use Rattle.claims.specs.Claims.{entry_by, entry_claim}
use Rattle.claims.proofs.sum_of_log.Given as goal

abbrev pub invariant-loop-d : goal.invariant-loop-d
invariant-loop-d l =
    (l.sum ≡ total (entry_claim l.books.table.now l.books.archive.now) (map (entry_by l.own) (take l.d-index l.log))) × (l.sum ≤ 4294967295 * l.d-index)
