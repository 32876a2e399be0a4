-- The log of the record that the payee's name looks up, and beside it the archive. Assumes nothing.
use mathlib.Core.Path.{◌≡◌, sym, ap, ◌∙◌}
use mathlib.Core.Bool.{true, false}
use Rattle.purse.specs.declared.Purse.{Purse}
use Rattle.purse.specs.Lists.{among}
use Rattle.purse.specs.Details.{same_details}
use Rattle.rules.specs.Bench.{kept}
use Rattle.table_records.specs.Records.{record_of}
use Rattle.table_records.proofs.Lookups.{looked_up}
use Rattle.claims.specs.Claims.{entry_by, payee_logged}
use Rattle.claims.proofs.Partners.{archived}
use Rattle.claims.proofs.has_logged.Goals as goal

pub returns-then-in_log : goal.returns-then-in_log
unfolding payee_logged
returns-then-in_log c =
    let d = c.args.d in
    let l = c.args.books.table.now in
    let here = looked_up l d.payee c.place-payee.result _ c.args.books.long c.place-payee.ensures in
    let on_card : among same_details d (kept (record_of l d.payee)) ≡ true =
    ap (λ (p : Purse). among same_details d (kept p)) (sym here) ∙ (sym c.in_log.ensures ∙ c.if-in_log.true) in
    c.if-in_log.true ∙ sym (rw on_card)

pub returns-else-in_log : goal.returns-else-in_log
unfolding payee_logged
returns-else-in_log c =
    let d = c.args.d in
    let l = c.args.books.table.now in
    let here = looked_up l d.payee c.place-payee.result _ c.args.books.long c.place-payee.ensures in
    let on_card : among same_details d (kept (record_of l d.payee)) ≡ false =
    ap (λ (p : Purse). among same_details d (kept p)) (sym here) ∙ (sym c.in_log.ensures ∙ c.if-in_log.false) in
    archived c.args.books.archive.now c.args.books.keys.now (entry_by d.payee.0 d) c.args.books.keyed c.is_among.ensures ∙ sym (rw on_card)
