-- Each turn of the loop holds a place against those before it. Assumes nothing.
use mathlib.Core.Path.{◌≡◌, refl, sym, ap, ◌∙◌}
use mathlib.Core.Bool.{true, false, and-false}
use lib.ListN.{length, take, get_or}
use lib.Seq.{take_all}
use lib.Dec.{leb}
use native.Mathlib.Omega.{arith}
use borrow.Author.Tests.{le-leb}
use Rattle.purse.specs.Lists.{among, distinct}
use Rattle.purse.proofs.Walks.{apart_more}
use Rattle.table_records.proofs.Asked.{one_before, keyed_before, key_more}
use Rattle.table_records.proofs.apart.are_apart.Goals as goal
use Rattle.table_records.proofs.apart.are_apart.Goals.{After-is_among}

-- what the search found, of the place itself
searched : (g : _) (c : After-is_among g) → c.is_among.result ≡ among g.T.PartialEq.eq (get_or c.args.used.now c.loop-i.i c.index-used-i.result) (take c.loop-i.i c.args.used.now)
searched g c =
    let eq = g.T.PartialEq.eq in
    keyed_before eq g.T.Placed.key_of g.met.T.Placed.alike c.index-used-i.result c.args.used.now c.loop-i.keys c.loop-i.i c.loop-i.invariant.2 c.is_among.ensures
    ∙ ap (λ x. among eq x (take c.loop-i.i c.args.used.now)) c.index-used-i.is

pub returns-then-is_among : goal.returns-then-is_among
returns-then-is_among g c =
    let found = searched g (goal.at.returns-then-is_among g c).After-is_among in
    let twice : distinct g.T.PartialEq.eq c.args.used.now ≡ false =
    one_before g.T.PartialEq.eq g.met.T.PartialEq.laws.symm c.args.used.now c.index-used-i.result c.loop-i.i c.loop-i-test.true (sym found ∙ c.if-is_among.true) in
    sym (rw (twice, and-false (leb (length c.args.used.now) 256)))

pub loop-i-preserved : goal.loop-i-preserved
loop-i-preserved g c =
    let l = c.args.used.now in
    let i = c.loop-i.i in
    let x = c.index-used-i.result in
    let found = searched g (goal.at.loop-i-preserved g c).After-is_among in (
      c.loop-i.invariant.0,
      apart_more g.T.PartialEq.eq g.met.T.PartialEq.laws.symm l i i x c.loop-i-test.true c.loop-i.invariant.1 (sym found ∙ c.if-is_among.false) refl,
      key_more g.T.PartialEq.eq g.T.Placed.key_of g.met.T.Placed.alike l c.loop-i.keys i c.key.result x c.loop-i-test.true (omega arith) c.loop-i.invariant.2 (c.key.ensures ∙ ap g.T.Placed.key_of c.index-used-i.is),
    )

pub returns : goal.returns
returns g c =
    let l = c.args.used.now in
    let apart : distinct g.T.PartialEq.eq l ≡ true = rw (take_all c.loop-i.i l c.loop-i-test.false) at c.loop-i.invariant.1 in
    sym (rw (le-leb (length l) 256 c.loop-i.invariant.0, apart))
