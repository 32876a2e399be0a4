-- `reading::get_bench` meets its contract. Where no test of the head applies, each list lies within the bytes, and the places hold what the definition lays there.
-- Assumes nothing.
use mathlib.Core.Path.{◌≡◌, ap, ◌∙◌}
use mathlib.Core.List.{List}
use native.Mathlib.Omega.{arith}
use Rattle.std.proofs.lemmas.Grind.{common_steps}
use Rattle.purse.specs.declared.Message.{Message}
use Rattle.desk.specs.declared.Entry.{Entry}
use Rattle.purse.specs.Details.{zero_message}
use Rattle.purse.specs.Purse.{zero_purse}
use Rattle.desk.specs.Desk.{zero_entry}
use Rattle.bigendian.proofs.Gets.{got_over}
use Rattle.layout.specs.Widths.{head_width, purse_width, message_width, entry_width}
use Rattle.layout.specs.Head.{purses_in, messages_in, entries_in, messages_from, entries_from}
use Rattle.layout.specs.Records.{purse_at, message_at, entry_at}
use Rattle.layout.proofs.Heads.{head_ok_lem}
use Rattle.layout.proofs.Whole.{placed}
use borrow.Author.Rules.{rules}
use Rattle.reading.proofs.get_bench.Goals as goal

pub returns : goal.returns
returns c =
    let l = c.args.s.now in
    let h = head_ok_lem l c.requires in
    let says = c.of-purses.ensures in
    let p = purses_in l in
    let m = messages_in l in
    let a = entries_in l in
    let no_purse : c.default-table.result ≡ zero_purse = grind (arith, common_steps) in
    let no_message : c.default-sent.result ≡ zero_message = search rules in
    let no_entry : c.default-archived.result ≡ zero_entry = search rules in
    let table = rw (c.from-3.ensures, says.purses) at c.get_all.ensures in
    let sent = rw (c.from.ensures, says.purses, says.messages) at c.get_all-2.ensures in
    let archived = rw (c.from.ensures, c.from-2.ensures, says.purses, says.messages, says.entries) at c.get_all-3.ensures in
    rw (says.purses, says.messages, says.entries)
    (placed l
    (table ∙ got_over purse_at purse_width 32 zero_purse l head_width p no_purse h.purses (omega (arith, h.long)))
    (ap (λ (xs : List Message). record { places = xs; count = m }) (sent ∙ got_over message_at message_width 256 zero_message l (messages_from p) m no_message h.messages (omega (arith, h.long))))
    (ap (λ (xs : List Entry). record { places = xs; count = a }) (archived ∙ got_over entry_at entry_width 256 zero_entry l (entries_from p m) a no_entry h.entries (omega (arith, h.long)))))
