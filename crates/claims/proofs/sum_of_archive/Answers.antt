-- Each turn of the loop adds one entry, each a number of four bytes. Assumes nothing.
use native.Mathlib.Omega.{arith}
use Rattle.purse.proofs.Count.{total-next}
use Rattle.desk.specs.Desk.{zero_entry}
use Rattle.table_records.specs.Records.{collected}
use Rattle.claims.specs.Claims.{entry_claim}
use Rattle.claims.proofs.sum_of_archive.Goals as goal

pub loop-e-preserved : goal.loop-e-preserved
loop-e-preserved c =
    let next = total-next (entry_claim c.args.books.table.now c.args.books.archive.now) (collected c.args.books.archive.now) c.loop-e.e-index zero_entry c.loop-e-test.true in
    (omega (arith, next, c.claim_of.ensures, c.loop-e.invariant.0), omega (arith, c.claim_of.type_inv, c.loop-e.invariant.1))
