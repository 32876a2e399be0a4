-- `reading::check_head` meets its contract. The tests before were passed, and the last one's length is that of the counts in the bytes.
-- Assumes nothing.
use mathlib.Core.Path.{◌≡◌}
use mathlib.Core.Bool.{false, not}
use lib.Dec.{eqb}
use native.Mathlib.Omega.{arith}
use borrow.Author.Tests.{ltb-false}
use Rattle.bigendian.proofs.Numbers.{count_there}
use Rattle.layout.specs.Widths.{version_place}
use Rattle.layout.specs.Head.{version, marked, version_in, counts_in}
use Rattle.reading.proofs.Refused.{passed_by, answered}
use Rattle.reading.proofs.check_head.Goals as goal

pub returns : goal.returns
returns c =
    let l = c.args.s.now in
    let says = c.of-n.ensures in
    let long = passed_by _ _ c.in_ok-refuse_if.ensures in
    let mark : not (marked l) ≡ false = rw (← c.is_marked.ensures) (passed_by _ _ c.in_ok-refuse_if-2.ensures) in
    let there = count_there l version_place (omega (arith, ltb-false _ _ long)) in
    let versions : not (eqb (version_in l) version) ≡ false = rw (← there, ← c.count_at.ensures) (passed_by _ _ c.in_ok-refuse_if-3.ensures) in
    let counts : not (counts_in l) ≡ false = rw (← says.purses, ← says.messages, ← says.entries, ← c.are_legal.ensures) (passed_by _ _ c.in_ok-refuse_if-4.ensures) in
    rw (long, mark, versions, counts, c.refuse_if-5.ensures, c.image_length.ensures, says.purses, says.messages, says.entries) (answered _ _)
