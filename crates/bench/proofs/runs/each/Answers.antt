-- `bench::runs::each` meets its contract: the loop's invariant is `Going`. A turn is one event at the parts (the laws of Parts), by the six ways on which it can go.
-- Assumes nothing.
use Rattle.bench.proofs.Filling.{going_on}
use Rattle.bench.proofs.Parts.{bench, long_parts, settled_at, by_asked, when-refused, when-nothing, when_sent, when_lost, when-stored, when_issued}
use Rattle.refusals.specs.declared.Head.{Head}
use Rattle.turns.specs.declared.Turned.{Turned}
use Rattle.asks.specs.declared.Asked.{Asked}
use Rattle.asks.specs.Asks.{delivered_at, within}
use Rattle.asks.proofs.Looks.{within_less, look_below}
use Rattle.acts.specs.Acts.{told_at, by_record}
use Rattle.purse.proofs.Lists.{at_any}
use Rattle.purse.specs.Details.{zero_message}
use Rattle.purse.specs.Purse.{zero_purse}
use Rattle.desk.specs.declared.Answered.{Answered}
use Rattle.rules.specs.declared.Event.{Event}
use Rattle.desk.specs.declared.Held.{Held}
use Rattle.rules.specs.Events.{decoded}
use lib.ListN.{length, take, drop, get_or}
use Prim.Native.Nat.{ℕ, ◌+◌, ◌*◌, ◌-◌, ◌<◌}
use mathlib.Core.Path.{◌≡◌, refl, ◌∙◌, ap}
use native.Mathlib.Omega.{arith}
use Rattle.bench.proofs.runs.each.Goals as goal
use Rattle.bench.proofs.runs.each.Goals.{then-moves+in-Nothing, then-moves+in-Send, then-moves+in-Lose, then-moves+in-Store, then-moves+in-Issue, else-moves}

pub loop-i-preserved : goal.loop-i-preserved
loop-i-preserved c =
    let i = c.loop-i.i in
    let input = c.args.input.now in
    let h : Held = bench c.loop-i.table c.loop-i.purses c.loop-i.ether c.loop-i.archive in
    let v : Event = c.decode-event.result in
    let k : ℕ = c.look-seen.result.place in
    let a : Asked = c.ask-asked.result in
    let t : Turned = c.tell-t.result in
    let long = long_parts h c.loop-i.invariant.ok in
    let below : k < 32 = rw c.look-seen.ensures (look_below _ _ _ _ _) in
    let inside : k < length h.table = omega (arith, below, long.0) in
    let from_is : c.within-delivered.result ≡ within (delivered_at v) = c.within-delivered.ensures ∙ ap within c.delivered_at.ensures in
    let m : _ ≡ get_or h.desk.ether.places (within (delivered_at v)) zero_message =
    at_any h.desk.ether.places c.within-delivered.result _ zero_message (rw (c.within-delivered.ensures, long.1) (within_less _))
    ∙ ap (λ (j : ℕ). get_or h.desk.ether.places j zero_message) from_is
    in
    let settles : settled_at h k a t ≡ by_record h v =
    by_asked h k a t v _ _ _ long.1 refl (at_any h.table k _ zero_purse inside) m c.look-seen.ensures c.ask-asked.ensures
    (c.tell-t.ensures ∙ ap (λ (d : Head). told_at d a) c.from.ensures)
    in
    let s : Answered = record { answer = c.if-moves.answer; held = bench c.if-moves.table c.if-moves.purses c.if-moves.ether c.if-moves.archive } in
    let done : s ≡ settled_at h k a t =
    elim c.if-moves.branch [
      | then-moves+in-Nothing w ↦
          rw (w.table-is, w.purses-is, w.ether-is, w.archive-is, w.answer-is)
          (when-nothing h k a t w.if-moves.true _ (at_any h.table k _ zero_purse inside) _ w.record.ensures _ w.change_of.ensures w.in-Nothing.is)
      | then-moves+in-Send w ↦
          rw (w.table-is, w.purses-is, w.ether-is, w.archive-is, w.answer-is)
          (when_sent h k a t w.if-moves.true _ (at_any h.table k _ zero_purse inside) _ w.record.ensures _ w.change_of.ensures _ w.add-changed.result _ w.in-Send.is w.add-changed.ensures w.from-answer.ensures)
      | then-moves+in-Lose w ↦
          rw (w.table-is, w.purses-is, w.ether-is, w.archive-is, w.answer-is)
          (when_lost h k a t w.if-moves.true _ (at_any h.table k _ zero_purse inside) _ w.record.ensures _ w.change_of.ensures _ w.take_out-changed.result w.in-Lose.is w.take_out-changed.ensures)
      | then-moves+in-Store w ↦
          rw (w.table-is, w.purses-is, w.ether-is, w.archive-is, w.answer-is)
          (when-stored h k a t w.if-moves.true _ (at_any h.table k _ zero_purse inside) _ w.record.ensures _ w.change_of.ensures _ w.store-archive.result w.in-Store.is w.store-archive.ensures)
      | then-moves+in-Issue w ↦
          rw (w.table-is, w.purses-is, w.ether-is, w.archive-is, w.answer-is)
          (when_issued h k a t w.if-moves.true _ (at_any h.table k _ zero_purse inside) _ w.record.ensures _ w.change_of.ensures _ w.in-Issue.is w.one_more-purses.ensures)
      | else-moves w ↦
          rw (w.table-is, w.purses-is, w.ether-is, w.archive-is, w.answer-is) (when-refused h k a t w.if-moves.false)
    ]
    in
    let twelve : 12 * i + 12 - 12 * i ≡ 12 = omega arith in
    let said : s ≡ by_record h (decoded (take 12 (drop (12 * i) input))) =
    done ∙ (settles ∙ (ap (by_record h) c.decode-event.ensures ∙ ap (λ (j : ℕ). by_record h (decoded (take j (drop (12 * i) input)))) twelve))
    in
    going_on _ h input _ c.loop-i.answers _ i s c.loop-i-test.true c.requires.2 said c.loop-i.invariant
