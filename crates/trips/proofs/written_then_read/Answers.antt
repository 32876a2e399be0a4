-- `trips::written_then_read` meets its contract. The first bytes of the buffer, as many as writing says, are the image, and it is read back.
-- Assumes nothing.
use mathlib.Core.Path.{◌≡◌, refl, sym}
use lib.ListN.{length}
use lib.Seq.{length-take-le}
use Rattle.trips.proofs.Back.{back, not_back, within}
use borrow.Author.Rules.{rules}
use Rattle.trips.proofs.written_then_read.Goals as goal

pub slice_bounds-read-end : goal.slice_bounds-read-end
slice_bounds-read-end c =
    let args = c.args in
    let room = within args.held args.out.now c.write-w.ensures.0 in
    search rules

pub slice_bounds-read-end-then-w-eq0 : goal.slice_bounds-read-end-then-w-eq0
slice_bounds-read-end-then-w-eq0 c =
    let args = c.args in
    let room = within args.held args.out.now c.write-w.ensures.0 in
    sym (length-take-le _ _ (search rules))

pub returns-then-w-eq0 : goal.returns-then-w-eq0
returns-then-w-eq0 c =
    let args = c.args in
    let lent : length args.other.table ≡ 32 = c.well_formed.1.0.1.1.0.1.0.1 in
    let wrote = c.write-w.ensures in
    (back args.other args.held args.out.now lent c.held_fits.ensures wrote.0 wrote.1 c.if-w-eq0.true c.read.ensures, wrote.1)

pub returns-else-w-eq0 : goal.returns-else-w-eq0
returns-else-w-eq0 c =
    let args = c.args in
    let wrote = c.write-w.ensures in
    (not_back args.other args.held args.out.now wrote.0 refl c.if-w-eq0.false, wrote.1)
