-- Each turn of the loop adds one entry, each a number of four bytes. Assumes nothing.
use Prim.Native.Nat.{◌*◌, ◌≤◌}
use mathlib.Core.Path.{◌≡◌}
use lib.ListN.{take}
use Rattle.purse.specs.Lists.{total}
use Rattle.table_records.specs.Records.{collected}
use Rattle.claims.specs.Claims.{entry_claim}
use Rattle.claims.proofs.sum_of_archive.Given as goal

abbrev pub invariant-loop-e : goal.invariant-loop-e
invariant-loop-e l = (l.sum ≡ total (entry_claim l.books.table.now l.books.archive.now) (take l.e-index (collected l.books.archive.now))) × (l.sum ≤ 4294967295 * l.e-index)
