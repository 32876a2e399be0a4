-- One event of a run, where the table, the ether and the archive are kept apart: what the card made of the head of the record that the
-- event means, settled at those parts, is the step of the whole (`by_record`).
-- Why: `by_record` is what is asked, told, settled and put back; a refusal puts back the record that was read, and each change touches one
-- part.
-- Assumes nothing.
use Prim.Native.Nat.{ℕ}
use mir.Val.{bool_byte}
use mathlib.Core.Path.{◌≡◌, refl, ap, ◌∙◌}
use mathlib.Core.Bool.{Bool, true, false, ◌&&◌, cond}
use mathlib.Core.List.{List}
use lib.ListN.{length, get_or, set, drop}
use lib.Dec.{leb, eqb}
use borrow.Author.Tests.{eqb-true, eq-eqb, ne_eqb}
use Rattle.purse.specs.declared.Message.{Message}
use Rattle.purse.specs.declared.Purse.{Purse}
use Rattle.purse.specs.Lists.{all}
use Rattle.purse.specs.Details.{zero_message}
use Rattle.purse.specs.Purse.{zero_purse}
use Rattle.purse.proofs.Bools.{and_l, and_r}
use Rattle.desk.specs.declared.Entry.{Entry}
use Rattle.desk.specs.declared.Ether.{Ether}
use Rattle.desk.specs.declared.Archive.{Archive}
use Rattle.desk.specs.declared.Changed.{Changed}
use Rattle.desk.specs.declared.Held.{Held}
use Rattle.desk.specs.declared.Answered.{Answered}
use Rattle.desk.specs.Desk.{appended, taken_out, stored}
use Rattle.rules.specs.declared.Event.{Event}
use Rattle.rules.specs.Laid.{seen, is_zero_purse, is_zero_message, is_zero_entry, places_ok, held_ok}
use Rattle.rules.specs.Table.{table_ok}
use Rattle.refusals.specs.Heads.{head_of}
use Rattle.turns.specs.declared.Turned.{Turned}
use Rattle.card.specs.Act.{record_after}
use Rattle.asks.specs.declared.Seen.{Seen}
use Rattle.asks.specs.declared.Asked.{Asked}
use Rattle.acts.specs.declared.Change.{Change}
use Rattle.acts.specs.declared.Change.TheVariants as change
use Rattle.asks.specs.Asks.{delivered_at, within, seen_with, seen_at, asked}
use Rattle.asks.proofs.Looks.{seen_lent}
use Rattle.acts.specs.Acts.{told_at, change_of, one_more, with_purses, with_ether, with_archive, carried_out, settled, act_on, put_back, by_record}
use Rattle.acts.proofs.Told.{acted}
use Rattle.acts.proofs.ByRecord.{stays}

-- what a bench holds, of its parts
abbrev pub bench : List Purse → ℕ → Ether → Archive → Held
bench table purses ether archive =
    record { table = table; desk = record { purses = purses; ether = ether; archive = archive } }

long : {A : Type 0} (f : A → Bool) (many n : ℕ) (l : List A) → places_ok f many n l ≡ true → length l ≡ many
long f many n l p =
    eqb-true _ _ (and_l (eqb (length l) many) (leb n many) (and_l (eqb (length l) many && leb n many) (all f (drop n l)) p))

-- a table of 32 records, an ether of 256 places
pub long_parts : (h : Held) → held_ok h ≡ true → (length h.table ≡ 32) × (length h.desk.ether.places ≡ 256)
unfolding held_ok
long_parts h w =
    let ps : Bool = places_ok is_zero_purse 32 h.desk.purses h.table in
    let ms : Bool = places_ok is_zero_message 256 h.desk.ether.count h.desk.ether.places in
    let es : Bool = places_ok is_zero_entry 256 h.desk.archive.count h.desk.archive.places in
    let both : (ps && ms) ≡ true = and_l (ps && ms) es (and_l (ps && ms && es) (table_ok (seen h)) w) in (
      long is_zero_purse 32 h.desk.purses h.table (and_l ps ms both),
      long is_zero_message 256 h.desk.ether.count h.desk.ether.places (and_r ps ms both),
    )

-- 1 for what is lost, else 0
one_where : (b : Bool) → bool_byte b ≡ cond b 1 0
one_where true = refl
one_where false = refl

module _ (h : Held) (k : ℕ) (a : Asked) (t : Turned) where
  -- the record in place k
  abbrev here : Purse
  here = get_or h.table k zero_purse

  -- what the card made of it, settled and put back
  abbrev pub settled_at : Answered
  settled_at = put_back h k (settled here h.desk t (change_of here a t.message))

  pub by_asked : (v : Event) (p : Purse) (m : Message) (s : Seen) → length h.desk.ether.places ≡ 256 → k ≡ s.place → p ≡ here → m ≡ get_or h.desk.ether.places (within (delivered_at v)) zero_message → s ≡ seen_with h.desk.purses h.desk.ether.count h.desk.archive.count m v → a ≡ asked s v → t ≡ told_at (head_of p) a → settled_at ≡ by_record h v
  unfolding by_record
  by_asked v p m s long place read message looked ask told =
      let sees : s ≡ seen_at h.desk v =
      looked
      ∙ (ap (λ (x : Message). seen_with h.desk.purses h.desk.ether.count h.desk.archive.count x v) message ∙ seen_lent h.desk v long)
      in
      ap (put_back h k)
      (acted here h.desk v a t (ask ∙ ap (λ (x : Seen). asked x v) sees) (told ∙ ap (λ (q : Purse). told_at (head_of q) a) read))
      ∙ ap (λ (i : ℕ). put_back h i (act_on (get_or h.table i zero_purse) h.desk v)) (place ∙ ap (λ (x : Seen). x.place) sees)

  pub when-refused : (t.answer ≡ 0 → ⊥) → record { answer = t.answer; held = h } ≡ settled_at
  unfolding settled
  when-refused z = rw (ne_eqb t.answer 0 z) (stays h t.answer k)

  -- done, at the record p that was read: q is put together of it, and c is changed
  module _ (z : t.answer ≡ 0) (p : Purse) (read : p ≡ here) (q : Purse) (put : q ≡ record_after p t.head t.log) (c : Change) (does : c ≡ change_of p a t.message) where
    done : settled_at ≡ put_back h k (carried_out q h.desk c)
    unfolding settled
    done = rw (eq-eqb t.answer 0 z, does, put, read)

    pub when-nothing : c ≡ change.Nothing → record { answer = t.answer; held = record { table = set h.table k q; desk = h.desk } } ≡ settled_at
    unfolding carried_out
    when-nothing e = rw (done, e, z)

    pub when_sent : (m : Message) (x : Changed) (n : ℕ) → c ≡ change.Send m → x ≡ appended h.desk.ether m → n ≡ bool_byte x.lost → record { answer = n; held = record { table = set h.table k q; desk = with_ether h.desk x.ether } } ≡ settled_at
    unfolding carried_out
    when_sent m x n e s f = rw (done, e, f, one_where, s)

    pub when_lost : (i : ℕ) (x : Changed) → c ≡ change.Lose i → x ≡ taken_out h.desk.ether i → record { answer = t.answer; held = record { table = set h.table k q; desk = with_ether h.desk x.ether } } ≡ settled_at
    unfolding carried_out
    when_lost i x e s = rw (done, e, z, s)

    pub when-stored : (y : Entry) (b : Archive) → c ≡ change.Store y → b ≡ stored h.desk.archive y → record { answer = t.answer; held = record { table = set h.table k q; desk = with_archive h.desk b } } ≡ settled_at
    unfolding carried_out
    when-stored y b e s = rw (done, e, z, s)

    pub when_issued : (n : ℕ) → c ≡ change.Issue → n ≡ one_more h.desk.purses → record { answer = t.answer; held = record { table = set h.table k q; desk = with_purses h.desk n } } ≡ settled_at
    unfolding carried_out
    when_issued n e s = rw (done, e, z, s)
