-- `form::is_absent` meets its contract: so far the answer is that of the places passed. Assumes nothing.
use native.Mathlib.Numerals.{add-one}
use native.Mathlib.Omega.{arith}
use mathlib.Core.Bool.{Bool, ◌&&◌, not, and_assoc}
use mathlib.Core.Path.{◌≡◌, refl, ap}
use lib.Dec.{eqb}
use lib.ListN.{get_or}
use Rattle.purse.specs.declared.Details.{Details}
use Rattle.purse.specs.Details.{zero_details, absent, same_details}
use Rattle.form.proofs.is_absent.Goals as goal

-- the derived equality is the rules'
equal : (d e : Details) → (eqb d.payer.0 e.payer.0 && (eqb d.payerseq.0 e.payerseq.0 && (eqb d.payee.0 e.payee.0 && (eqb d.payeeseq.0 e.payeeseq.0 && eqb d.amount.0 e.amount.0)))) ≡ same_details d e
unfolding same_details
equal d e = simp and_assoc

pub loop-j-init : goal.loop-j-init
unfolding absent
loop-j-init c = refl

pub loop-j-preserved : goal.loop-j-preserved
unfolding absent
loop-j-preserved c =
    rw (c.loop-j.invariant, c.ne-ok.ensures, add-one c.loop-j.j)
    (ap (λ (t : Bool). absent c.args.log c.args.d c.loop-j.j && not t) (equal (get_or c.args.log c.loop-j.j zero_details) c.args.d))

pub returns : goal.returns
returns c = let e : c.loop-j.j ≡ c.args.n = omega arith in cc
