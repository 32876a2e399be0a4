-- What is read and written at the desk, place by place, is what the definitions say of the whole desk; over plain values. Assumes nothing.
use mathlib.Core.Path.{◌≡◌, refl, ap, ◌∙◌}
use mathlib.Core.Bool.{true, false}
use Prim.Native.Nat.{ℕ, ◌<◌}
use lib.ListN.{length, get_or, set}
use Rattle.purse.specs.declared.Message.{Message}
use Rattle.purse.specs.declared.Purse.{Purse}
use Rattle.purse.specs.Details.{zero_message}
use Rattle.purse.proofs.Lists.{at_any}
use Rattle.desk.specs.declared.Entry.{Entry}
use Rattle.desk.specs.declared.Ether.{Ether}
use Rattle.desk.specs.declared.Desk.{Desk}
use Rattle.desk.specs.Desk.{zero_entry, taken_out}
use Rattle.rules.specs.declared.Event.{Event}
use Rattle.asks.specs.declared.Seen.{Seen}
use Rattle.asks.specs.Asks.{delivered_at, within, seen_with, seen_at}
use Rattle.asks.proofs.Looks.{within_less, seen_lent}
use Rattle.deeds.specs.declared.Deed.{Deed}
use Rattle.deeds.specs.Deeds.{deed_by, deed_at, desk_after}

-- the place within which a count lies is one of the 256
pub below : (j n : ℕ) → j ≡ within n → j < 256
below j n e = rw e (within_less n)

-- what is seen by the message at the place that is delivered
pub seen_is : (d : Desk) (e : Event) (j : ℕ) (m : Message) {s : Seen} → length d.ether.places ≡ 256 → j ≡ within (delivered_at e)
    → s ≡ seen_with d.purses d.ether.count d.archive.count (get_or d.ether.places j m) e → s ≡ seen_at d e
seen_is d e j m long a q =
    let b : j < length d.ether.places = rw long (below j (delivered_at e) a) in
    q ∙ (ap (λ x. seen_with d.purses d.ether.count d.archive.count x e) (at_any d.ether.places j m zero_message b ∙ ap (λ i. get_or d.ether.places i zero_message) a) ∙ seen_lent d e long)

-- the deed by what stands behind the messages and behind the entries
pub deed_is : (p : Purse) (s : Seen) (d : Desk) (e : Event) (j k : ℕ) (m : Message) (x : Entry) {c : Deed} → length d.ether.places ≡ 256 → length d.archive.places ≡ 256
    → j ≡ within d.ether.count → k ≡ within d.archive.count → c ≡ deed_by p s (get_or d.ether.places j m) (get_or d.archive.places k x) e → c ≡ deed_at p s d e
unfolding deed_at
deed_is p s d e j k m x long many a b q =
    let l : j < length d.ether.places = rw long (below j d.ether.count a) in
    let r : k < length d.archive.places = rw many (below k d.archive.count b) in
    q ∙ (ap (λ y. deed_by p s y (get_or d.archive.places k x) e) (at_any d.ether.places j m zero_message l ∙ ap (λ i. get_or d.ether.places i zero_message) a)
    ∙ ap (λ y. deed_by p s (get_or d.ether.places (within d.ether.count) zero_message) y e) (at_any d.archive.places k x zero_entry r ∙ ap (λ i. get_or d.archive.places i zero_entry) b))

-- the desk with a deed written at those places
abbrev pub wrote : Desk → Deed → ℕ → ℕ → Desk
wrote d c j k =
    record {
      purses = c.purses;
      ether = record { places = set d.ether.places j c.message; count = c.messages };
      archive = record { places = set d.archive.places k c.entry; count = c.entries };
    }

-- nothing is lost
pub stays : (d : Desk) (c c' : Deed) (j k : ℕ) → j ≡ within d.ether.count → k ≡ within d.archive.count → c ≡ c' → c.loses ≡ false → wrote d c j k ≡ desk_after d c'
unfolding desk_after
stays d c c' j k a b q f = rw (a, b, ← q, f) refl

-- a message is lost
pub loses : (d : Desk) (c c' : Deed) (j k : ℕ) (e : Ether) → j ≡ within d.ether.count → k ≡ within d.archive.count → c ≡ c' → c.loses ≡ true
    → e ≡ (taken_out (wrote d c j k).ether c.place).ether → record { purses = c.purses; ether = e; archive = (wrote d c j k).archive } ≡ desk_after d c'
unfolding desk_after
loses d c c' j k e a b q f t = rw (t, a, b, ← q, f) refl
