-- What an event's deed leaves, written in its places, is what the bench's step leaves, where the deed goes by what is seen at the desk: a place
-- that it writes as it stood is no change (`set-get_or`), and each change has its own place behind those that stand. Assumes nothing.
use mathlib.Core.Path.{◌≡◌, ap}
use mathlib.Core.Bool.{true, false}
use mathlib.Core.Logic.{inl, inr, ⊎_elim}
use Prim.Native.Nat.{ℕ}
use lib.ListN.{get_or, set}
use lib.Seq.{set-get_or}
use lib.Dec.{ltb, eqb}
use Rattle.purse.specs.declared.Message.{Message}
use Rattle.purse.specs.declared.Purse.{Purse}
use Rattle.purse.specs.Details.{zero_message}
use Rattle.purse.specs.Purse.{zero_purse}
use Rattle.purse.proofs.Bools.{which}
use Rattle.refusals.specs.Heads.{head_of}
use Rattle.turns.specs.declared.Turned.{Turned}
use Rattle.card.specs.Act.{record_after}
use Rattle.desk.specs.declared.Entry.{Entry}
use Rattle.desk.specs.declared.Desk.{Desk}
use Rattle.desk.specs.declared.Held.{Held}
use Rattle.desk.specs.Desk.{zero_entry, appended, stored}
use Rattle.rules.specs.declared.Event.{Event}
use Rattle.asks.specs.declared.Seen.{Seen}
use Rattle.acts.specs.declared.Change.{Change}
use Rattle.acts.specs.declared.Change.TheVariants.{Nothing, Send, Lose, Store, Issue}
use Rattle.asks.specs.declared.Asked.{Asked}
use Rattle.asks.specs.Asks.{within, seen_at, asked}
use Rattle.asks.proofs.Looks.{within_is}
use Rattle.acts.specs.Acts.{Acted, told_at, change_of, carried_out, settled, act_on, put_back, by_record}
use Rattle.deeds.specs.declared.Deed.{Deed}
use Rattle.deeds.specs.Deeds.{desk_stays, doing, deed_of, deed_by, deed_at, desk_after}

-- the record and the desk that a deed leaves
abbrev pub acted_by : Desk → Deed → Acted
acted_by d c = record { answer = c.answer; purse = c.purse; desk = desk_after d c }

module _ (d : Desk) where
  -- what stands behind the messages and behind the entries
  abbrev last : Message
  last = get_or d.ether.places (within d.ether.count) zero_message

  abbrev entry : Entry
  entry = get_or d.archive.places (within d.archive.count) zero_entry

  abbrev same_messages : set d.ether.places (within d.ether.count) last ≡ d.ether.places
  same_messages = set-get_or d.ether.places (within d.ether.count) zero_message

  abbrev same_entries : set d.archive.places (within d.archive.count) entry ≡ d.archive.places
  same_entries = set-get_or d.archive.places (within d.archive.count) zero_entry

  module _ (v : Event) where
    abbrev s : Seen
    s = seen_at d v

    stays_so : (n : ℕ) (q : Purse) → acted_by d (desk_stays n q s last entry) ≡ record { answer = n; purse = q; desk = d }
    unfolding desk_stays desk_after
    stays_so n q = rw (same_messages, same_entries)

    sends_so : (q : Purse) (m : Message) → ltb d.ether.count 256 ≡ true → acted_by d (doing q s last entry (Send m)) ≡ carried_out q d (Send m)
    unfolding doing carried_out appended desk_after
    sends_so q m p = rw (p, within_is d.ether.count p, same_entries)

    sends_lost : (q : Purse) (m : Message) → ltb d.ether.count 256 ≡ false → acted_by d (doing q s last entry (Send m)) ≡ carried_out q d (Send m)
    unfolding doing carried_out appended
    sends_lost q m p = rw p (stays_so 1 q)

    stores_so : (q : Purse) (e : Entry) → ltb d.archive.count 256 ≡ true → acted_by d (doing q s last entry (Store e)) ≡ carried_out q d (Store e)
    unfolding doing carried_out stored desk_after
    stores_so q e p = rw (p, within_is d.archive.count p, same_messages)

    stores_not : (q : Purse) (e : Entry) → ltb d.archive.count 256 ≡ false → acted_by d (doing q s last entry (Store e)) ≡ carried_out q d (Store e)
    unfolding doing carried_out stored
    stores_not q e p = rw p (stays_so 0 q)

    loses_so : (q : Purse) (k : ℕ) → acted_by d (doing q s last entry (Lose k)) ≡ carried_out q d (Lose k)
    unfolding doing carried_out desk_after
    loses_so q k = rw (same_messages, same_entries)

    issues_so : (q : Purse) → acted_by d (doing q s last entry Issue) ≡ carried_out q d Issue
    unfolding doing carried_out desk_after
    issues_so q = rw (same_messages, same_entries)

    stays_too : (q : Purse) → acted_by d (doing q s last entry Nothing) ≡ carried_out q d Nothing
    unfolding doing carried_out
    stays_too q = stays_so 0 q

    does_so : (q : Purse) (c : Change) → acted_by d (doing q s last entry c) ≡ carried_out q d c
    does_so q Nothing = stays_too q
    does_so q (Send m) = ⊎_elim (sends_so q m) (sends_lost q m) (which (ltb d.ether.count 256))
    does_so q (Lose k) = loses_so q k
    does_so q (Store e) = ⊎_elim (stores_so q e) (stores_not q e) (which (ltb d.archive.count 256))
    does_so q Issue = issues_so q

    settles_so : (p : Purse) (a : Asked) (t : Turned) → acted_by d (deed_of p s last entry a t) ≡ settled p d t (change_of p a t.message)
    unfolding deed_of settled
    settles_so p a t =
        elim (which (eqb t.answer 0)) [
          | inl z ↦ rw z (does_so (record_after p t.head t.log) (change_of p a t.message))
          | inr z ↦ rw z (stays_so t.answer p)
        ]

  -- an event's deed, written, is the bench's step at its record and the desk
  pub deed_acts : (p : Purse) (e : Event) → acted_by d (deed_at p (seen_at d e) d e) ≡ act_on p d e
  unfolding deed_at deed_by act_on
  deed_acts p e = settles_so e p (asked (seen_at d e) e) (told_at (head_of p) (asked (seen_at d e) e))

-- and so, its record put back beside the desk, at the whole bench
pub deed_by_record : (h : Held) (e : Event) → put_back h (seen_at h.desk e).place (acted_by h.desk (deed_at (get_or h.table (seen_at h.desk e).place zero_purse) (seen_at h.desk e) h.desk e)) ≡ by_record h e
unfolding by_record
deed_by_record h e = ap (put_back h (seen_at h.desk e).place) (deed_acts h.desk (get_or h.table (seen_at h.desk e).place zero_purse) e)
