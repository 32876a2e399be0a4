-- Each turn of the loop adds one log more, each of eight entries at most. Assumes nothing.
use Prim.Native.Nat.{◌*◌, ◌≤◌}
use mathlib.Core.Path.{◌≡◌}
use Rattle.purse.specs.Lists.{total}
use Rattle.claims.specs.Claims.{log_entries, entry_claim}
use Rattle.claims.proofs.sum_of_logs.Given as goal

abbrev pub invariant-loop-own : goal.invariant-loop-own
invariant-loop-own l =
    (l.sum ≡ total (entry_claim l.books.table.now l.books.archive.now) (log_entries l.own l.books.table.now)) × (l.sum ≤ 4294967295 * (8 * l.own))
