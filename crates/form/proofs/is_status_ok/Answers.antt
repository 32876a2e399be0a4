-- `form::is_status_ok` meets its contract: status by status (`Cases`). Assumes nothing.
use Rattle.form.proofs.Cases.{at_idle, at_epr, at_epv, at_epa, at_none}
use Rattle.form.specs.Form.{headed}
use Rattle.form.proofs.is_status_ok.Goals as goal

pub returns-in-0 : goal.returns-in-0
returns-in-0 c = simp (at_idle c.args.own (headed c.args.h) c.in-0.is, c.is_unused.ensures)

pub returns-in-1 : goal.returns-in-1
returns-in-1 c =
    simp
    (at_epr c.args.own (headed c.args.h) c.in-1.is, c.is_named.ensures, c.is_payer.ensures)

pub returns-in-2 : goal.returns-in-2
returns-in-2 c =
    simp
    (at_epv c.args.own (headed c.args.h) c.in-2.is, c.is_named.ensures, c.requires, c.is_payee.ensures)

pub returns-in-3 : goal.returns-in-3
returns-in-3 c =
    simp
    (at_epa c.args.own (headed c.args.h) c.in-3.is, c.is_named.ensures, c.is_payer-in-3.ensures)

pub returns-in-4-to-255 : goal.returns-in-4-to-255
returns-in-4-to-255 c =
    simp
    (at_none c.args.own (headed c.args.h) c.in-4-to-255.in-4-to-255-own.rest.0.0.0.1 c.in-4-to-255.in-4-to-255-own.rest.0.0.1 c.in-4-to-255.in-4-to-255-own.rest.0.1 c.in-4-to-255.in-4-to-255-own.rest.1)
