-- Each turn of the loop adds one entry, each a number of four bytes. Assumes nothing.
use Prim.Native.Nat.{ℕ, ◌+◌}
use mathlib.Core.Path.{◌≡◌, ap, ◌∙◌}
use mathlib.Core.List.{[], ◌∷◌, ◌++◌, map, map-append}
use lib.ListN.{take, get_or}
use lib.Seq.{take-suc}
use native.Mathlib.Numerals.{add-one}
use native.Mathlib.Omega.{arith}
use Rattle.purse.specs.Lists.{total}
use Rattle.purse.specs.Details.{zero_details}
use Rattle.purse.proofs.Count.{total-append}
use Rattle.desk.specs.declared.Entry.{Entry}
use Rattle.claims.specs.Claims.{entry_by, entry_claim}
use Rattle.claims.proofs.sum_of_log.Goals as goal

pub loop-d-preserved : goal.loop-d-preserved
loop-d-preserved c =
    let w : Entry → ℕ = entry_claim c.args.books.table.now c.args.books.archive.now in
    let by = entry_by c.args.own in
    let log = c.args.log.now in
    let i = c.loop-d.d-index in
    let more : map by (take (i + 1) log) ≡ map by (take i log) ++ (by (get_or log i zero_details) ∷ []) =
    rw (add-one i, take-suc log i zero_details c.loop-d-test.true) (map-append by (take i log) (get_or log i zero_details ∷ [])) in
    let added = ap (total w) more ∙ total-append w (map by (take i log)) (by (get_or log i zero_details) ∷ []) in
    (omega (arith, added, c.claim_of.ensures, c.loop-d.invariant.0), omega (arith, c.claim_of.type_inv, c.loop-d.invariant.1))
