-- One piece more.
-- Assumes nothing.
use Prim.Native.Nat.{◌+◌, ◌*◌}
use native.Mathlib.Omega.{arith}
use mathlib.Core.Path.{◌≡◌, refl, subst}
use mathlib.Core.List.{[], ◌++◌}
use lib.ListN.{length, take, length-append}
use lib.Seq.{length-take-le}
use borrow.Author.Rules.{rules}
use Rattle.std.specs.Io.KnownBytes.{Appends}
use Rattle.stream.proofs.Pieces.{piece_front, none_listed, more_listed}
use Rattle.stream.proofs.events.Goals as goal

pub loop-whole-init : goal.loop-whole-init
loop-whole-init g c = ([], none_listed _ _ _, refl)

pub loop-whole-preserved : goal.loop-whole-preserved
loop-whole-preserved g c =
    let (bytes, listed, long) = c.loop-whole.invariant in
    let got = c.in_ok-got.ensures in
    let k = c.loop-whole.whole in
    let x = take c.in_ok-got.got c.read.new.bytes in
    let many = length-take-le c.in_ok-got.got c.read.new.bytes got.count_in_bounds in
    let room : length c.read.new.bytes ≡ 6144 = search rules in
    let said = c.piece-listed.ensures in
    let piece = piece_front c.loop-whole.held (1 + 512 * k) x c.loop-whole.lines (omega (arith, many)) (search rules) (omega arith) said.value said.events_bound.1 in
    (bytes ++ x, more_listed k x listed long got.consumed (subst (Appends _ _) piece.0 c.in_ok-write.ensures) piece.1, omega (arith, long, many, length-append bytes x))

pub returns-then-got-lt6144 : goal.returns-then-got-lt6144
returns-then-got-lt6144 g c =
    let (bytes, listed, long) = c.loop-whole.invariant in
    let got = c.in_ok-got.ensures in
    let k = c.loop-whole.whole in
    let x = take c.in_ok-got.got c.read.new.bytes in
    let many = length-take-le c.in_ok-got.got c.read.new.bytes got.count_in_bounds in
    let room : length c.read.new.bytes ≡ 6144 = search rules in
    let said = c.piece-listed.ensures in
    let piece = piece_front c.loop-whole.held (1 + 512 * k) x c.loop-whole.lines (omega (arith, many)) (search rules) (omega arith) said.value said.events_bound.1 in
    (bytes ++ x, more_listed k x listed long got.consumed (subst (Appends _ _) piece.0 c.in_ok-write.ensures) piece.1, λ _. got.end (omega arith))
