-- `form::is_log_ok` meets its contract: each turn of the loop asks a used place more, and with the unused ones behind it that is the whole log
-- (`log_parts`). Assumes nothing.
use native.Mathlib.Omega.{arith}
use mathlib.Core.Path.{◌≡◌, sym, ap, ◌∙◌}
use mathlib.Core.List.{List}
use Rattle.purse.specs.Lists.{all}
use Rattle.purse.specs.declared.Details.{Details}
use mathlib.Core.Bool.{true}
use Prim.Native.Nat.{◌-◌}
use lib.ListN.{length, take, drop, length-drop}
use lib.Seq.{take_all}
use Rattle.purse.specs.declared.Purse.{Purse}
use Rattle.purse.proofs.Walks.{more_every}
use Rattle.form.specs.Form.{logging, unused}
use Rattle.form.proofs.Parts.{used_at, log_parts}
use Rattle.form.proofs.is_log_ok.Goals as goal
use Rattle.form.proofs.is_log_ok.Goals.{Start}

-- the log, its count and what its rules read, as they are handed in
abbrev told : Start → Purse
told start = logging start.args.log start.args.logged start.args.running start.args.next

long : (start : Start) → length start.args.log ≡ 8
long start = start.well_formed.0.1.0.1

pub loop-i-preserved : goal.loop-i-preserved
loop-i-preserved c =
    let start = (goal.at.loop-i-preserved c).Start in
    let i = c.loop-i.i in (
      c.loop-i.invariant.0,
      more_every (used_at c.args.own (told start)) i true c.loop-i.invariant.1
          (rw (c.is_place_ok.ensures, c.is_absent.ensures)),
    )

pub returns : goal.returns
returns c =
    let start = (goal.at.returns c).Start in
    let l = c.args.log in
    let used = c.from-used.result in
    let full : c.loop-i.i ≡ used = omega arith in
    let behind = c.is_log_unused.ensures ∙ ap (λ (xs : List Details). all unused xs) (take_all _ (drop used l) (omega (arith, length-drop used l, long start))) in
    rw (c.loop-i.invariant.1, full, behind) (sym (log_parts c.args.own (told start) used (long start) (c.from-used.ensures ∙ c.min.ensures)))
