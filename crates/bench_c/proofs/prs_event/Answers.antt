-- `bench_c::prs_event` meets its contract: a table that breaks the rules is refused; in any other the one record that the event is seen to mean is
-- read, and written back beside the desk, and that is the bench's step (`deed_by_record`, `step_by_record`). Assumes nothing.
use Prim.Native.Nat.{ℕ, ◌<◌}
use mathlib.Core.Path.{◌≡◌, sym, ap, ◌∙◌}
use mathlib.Core.Bool.{true}
use mathlib.Core.List.{List}
use lib.ListN.{length, get_or, set}
use native.Mathlib.Omega.{arith}
use Rattle.purse.specs.declared.Purse.{Purse}
use Rattle.purse.specs.Purse.{zero_purse}
use Rattle.purse.proofs.Lists.{at_any}
use Rattle.desk.specs.declared.Desk.{Desk}
use Rattle.desk.specs.declared.Answered.{Answered}
use Rattle.rules.specs.Laid.{held_ok, held_step}
use Rattle.rules.specs.Events.{decoded}
use Rattle.asks.specs.declared.Seen.{Seen}
use Rattle.asks.specs.Asks.{seen_at}
use Rattle.asks.proofs.Looks.{seen_below}
use Rattle.acts.proofs.ByRecord.{step_by_record}
use Rattle.deeds.specs.declared.Deed.{Deed}
use Rattle.deeds.specs.Deeds.{deed_at, desk_after}
use Rattle.deeds.proofs.Acts.{deed_by_record}
use Rattle.walk_table.specs.Lent.{held}
use Rattle.walk_table.proofs.Whole.{long_is}
use Rattle.bench_c.proofs.prs_event.Goals as goal

-- what is left: the answer, the table, the desk
abbrev left : ℕ → List Purse → Desk → Answered
left n l d = record { answer = n; held = held l d }

-- the record that an event is seen to mean is one of the table
below : (d : Desk) (es : List ℕ) (s : Seen) → s ≡ seen_at d (decoded es) → s.place < 32
below d es s q = rw q (seen_below d (decoded es))

inside : (l : List Purse) (d : Desk) (es : List ℕ) (s : Seen) → held_ok (held l d) ≡ true → s ≡ seen_at d (decoded es) → s.place < length l
inside l d es s w q = omega (arith, long_is l d w, below d es s q)

-- what the event writes at that record
abbrev deed_in : List Purse → Desk → List ℕ → Seen → Purse → Deed
deed_in l d es s x = deed_at (get_or l s.place x) s d (decoded es)

stepped : (l : List Purse) (d : Desk) (es : List ℕ) (s : Seen) (x : Purse) (r : Deed) (e : Desk) → held_ok (held l d) ≡ true → s ≡ seen_at d (decoded es)
    → r ≡ deed_in l d es s x → e ≡ desk_after d (deed_in l d es s x)
    → left r.answer (set l s.place r.purse) e ≡ held_step (held l d) es
stepped l d es s x r e w q r-is e-is =
    let p : get_or l s.place x ≡ get_or l (seen_at d (decoded es)).place zero_purse =
    at_any l s.place x zero_purse (inside l d es s w q) ∙ ap (λ (t : Seen). get_or l t.place zero_purse) q
    in
    let same : deed_in l d es s x ≡ deed_in l d es (seen_at d (decoded es)) zero_purse = λ z. deed_at (p z) (q z) d (decoded es) in
    let r-so = r-is ∙ same in
    let e-so = e-is ∙ ap (desk_after d) same in
    (λ z. left (r-so z).answer (set l (q z).place (r-so z).purse) (e-so z))
    ∙ deed_by_record (held l d) (decoded es) ∙ sym (step_by_record (held l d) es w)

pub returns : goal.returns
returns c =
    let w = sym c.table_ok.ensures ∙ c.if-not-table_ok.false in
    let d = c.written_at-d in
    let e = stepped c.args.table.now c.args.desk.now c.args.event.now c.seen_at-seen.result _ d.result d.new.desk w c.seen_at-seen.ensures d.ensures.0 d.ensures.1 in
    (ap (λ (a : Answered). a.answer) e, ap (λ (a : Answered). a.held.table) e, ap (λ (a : Answered). a.held.desk) e)
