-- `form::well_formed` meets its contract: the head, then the log, by what their tests promise (`Parts`). Assumes nothing.
use mathlib.Core.Path.{◌≡◌, ◌∙◌, sym, ap}
use lib.ListN.{length}
use native.Mathlib.Omega.{arith}
use Rattle.purse.specs.Purse.{idle_ok, busy_ok, place_ok, log_ok}
use Rattle.purse.proofs.Lists.{unmapped}
use Rattle.refusals.specs.declared.Head.{Head}
use Rattle.form.specs.Form.{headed, head_ok}
use Rattle.form.proofs.Parts.{log_empty, whole}
use borrow.Author.Rules.{rules}
use Rattle.form.proofs.well_formed.Goals as goal
use Rattle.form.proofs.well_formed.Goals.{Start}

-- at entry the log has its eight places
long : (start : Start) → length start.args.p.log ≡ 8
long start = search (rules, unmapped)

pub is_head_ok-head-requires : goal.is_head_ok-head-requires
is_head_ok-head-requires c = ap (λ (h : Head). h.most.0) c.from.ensures

pub returns-then-p-eq0 : goal.returns-then-p-eq0
unfolding head_ok idle_ok busy_ok
returns-then-p-eq0 c =
    whole c.args.own c.args.p (c.is_head_ok-head.ensures ∙ ap (λ (h : Head). head_ok c.args.own (headed h)) c.from.ensures)
    (c.is_log_unused.ensures ∙ sym (log_empty c.args.own c.args.p (long (goal.at.returns-then-p-eq0 c).Start) (omega arith)))

pub returns-else-p-eq0 : goal.returns-else-p-eq0
unfolding head_ok idle_ok busy_ok log_ok place_ok
returns-else-p-eq0 c = whole c.args.own c.args.p (c.is_head_ok-head.ensures ∙ ap (λ (h : Head). head_ok c.args.own (headed h)) c.from.ensures) c.is_log_ok.ensures
