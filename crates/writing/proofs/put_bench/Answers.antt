-- `writing::put_bench` meets its contract. Head, purses, messages and entries are put one after the other; a well-formed bench's image is as long as its counts say.
-- Assumes nothing.
use mathlib.Core.Path.{◌≡◌, refl, ◌∙◌}
use mathlib.Core.List.{append_assoc}
use lib.ListN.{length, length-append}
use native.Mathlib.Omega.{arith}
use Rattle.bigendian.specs.Bytes.{big}
use Rattle.bigendian.proofs.Puts.{then_put, first-put}
use Rattle.layout.specs.Head.{head_bytes}
use Rattle.layout.proofs.Stands.{held-length, held_counts, held_image, lists_length}
use borrow.Author.Rules.{rules}
use Rattle.writing.proofs.put_bench.Goals as goal

pub put_head-requires : goal.put_head-requires
put_head-requires c =
    let long = held-length c.args.held.now c.requires.0 in
    search rules

pub returns : goal.returns
unfolding head_bytes big
returns c =
    let h = c.args.held.now in
    let l = c.args.out.now in
    let ok = c.requires.0 in
    let long = held-length h ok in
    let counts = held_counts h ok in
    let wide = lists_length h ok in
    let table : length h.table ≡ 32 = search rules in
    let ether : length h.desk.ether.places ≡ 256 = search rules in
    let archive : length h.desk.archive.places ≡ 256 = search rules in
    let e1 = c.put_head.ensures in
    let purses = rw c.from-purses.ensures at c.put_all.ensures in
    let e2 = then_put l 0 _ _ e1 refl (purses ∙ first-put _ _ _ _ _ _ _ (omega (arith, counts.purses)) (omega arith)) in
    let e3 = then_put l 0 _ _ e2 (simp length-append (omega (arith, wide.purses))) (c.put_all-2.ensures ∙ first-put _ _ _ _ _ _ _ (omega (arith, counts.messages)) (omega arith)) in
    let e4 = then_put l 0 _ _ e3 (simp length-append (omega (arith, wide.purses, wide.messages))) (c.put_all-3.ensures ∙ first-put _ _ _ _ _ _ _ (omega (arith, counts.entries)) (omega arith)) in
    e4 ∙ rw (held_image h ok) (simp append_assoc)
