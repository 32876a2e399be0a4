-- The lists and their places: a bench laid out is read back, a well-formed table and desk are their lists laid out, and the step on places is
-- the step on lists. For the bench's code, and for carrying a theorem on lists to the table and desk.
-- Assumes nothing.
use Prim.Native.Nat.{ℕ, ◌-◌, ◌≤◌}
use mathlib.Core.Path.{◌≡◌, refl, ◌∙◌, sym, ap}
use mathlib.Core.Bool.{Bool, true, ◌&&◌}
use mathlib.Core.List.{List, ◌++◌}
use lib.ListN.{length, take, drop, replicate, length-drop, take-append-drop}
use lib.Seq.{length-take-le}
use lib.Dec.{leb, eqb}
use native.Mathlib.Omega.{arith}
use borrow.Author.Tests.{eqb-true, eq-eqb, leb-true, le-leb}
use Rattle.purse.specs.declared.Details.{Details}
use Rattle.purse.specs.declared.Message.{Message}
use Rattle.purse.specs.declared.Purse.{Purse}
use Rattle.purse.specs.Details.{zero_details, zero_message, same_details, same_message}
use Rattle.purse.specs.Lists.{all, padded}
use Rattle.purse.specs.Purse.{zero_purse}
use Rattle.purse.proofs.Padded.{all_replicate, replicate-all, taken_back, rest_back, length-padded}
use Rattle.purse.proofs.Bools.{and_l, and_r, and_i}
use Rattle.desk.specs.declared.Entry.{Entry}
use Rattle.desk.specs.declared.Held.{Held}
use Rattle.desk.specs.Desk.{zero_entry, same_entry}
use Rattle.rules.specs.Bench.{Bench}
use Rattle.rules.specs.Table.{table_ok}
use Rattle.rules.specs.Steps.{acting, step}
use Rattle.rules.specs.Events.{decoded}
use Rattle.rules.specs.Laid.{laid, seen, is_zero_purse, is_zero_message, is_zero_entry, places_ok, held_ok, held_step}
use Rattle.rules.proofs.Facts.{details_equal, message_equal, entry_equal, Table, is_table}

-- places that obey: as many as there must be, no more of them used, the others zero
module _ {A : Type 0} (f : A → Bool) (many n : ℕ) (l : List A) (h : places_ok f many n l ≡ true) where
  fitting : (eqb (length l) many && leb n many) ≡ true
  fitting = and_l (eqb (length l) many && leb n many) (all f (drop n l)) h

  pub places_long : length l ≡ many
  places_long = eqb-true _ _ (and_l (eqb (length l) many) (leb n many) fitting)

  pub places_fit : n ≤ many
  places_fit = leb-true _ _ (and_r (eqb (length l) many) (leb n many) fitting)

  pub places_used : length (take n l) ≡ n
  places_used = length-take-le n l (omega (arith, places_long, places_fit))

  pub places_rest : all f (drop n l) ≡ true
  places_rest = and_r (eqb (length l) many && leb n many) (all f (drop n l)) h

  -- they are the first n, zeros behind them
  pub laid-places : (z : A) → ((x : A) → f x ≡ true → x ≡ z) → padded many z (take n l) ≡ l
  laid-places z zeroed =
      let rest : drop n l ≡ replicate (length (drop n l)) z = replicate-all f z zeroed (drop n l) places_rest in
      let m : many - length (take n l) ≡ length (drop n l) = omega (arith, places_used, places_long, length-drop n l) in
      ap (λ (k : ℕ). take n l ++ replicate k z) m ∙ (ap (λ (r : List A). take n l ++ r) (sym rest) ∙ take-append-drop n l)

pub places-laid : {A : Type 0} (f : A → Bool) (z : A) → f z ≡ true → (many : ℕ) (l : List A) → length l ≤ many → places_ok f many (length l) (padded many z l) ≡ true
places-laid f z e many l h =
    and_i (and_i (eq-eqb _ _ (length-padded many z l h)) (le-leb _ _ h)) (rw (rest_back many z l) (all_replicate f z (many - length l) e))

-- zero is what the tests say
pub message_zero : (m : Message) → is_zero_message m ≡ true → m ≡ zero_message
unfolding is_zero_message
message_zero m h = message_equal m zero_message h

pub entry_zero : (e : Entry) → is_zero_entry e ≡ true → e ≡ zero_entry
unfolding is_zero_entry
entry_zero e h = entry_equal e zero_entry h

pub purse_zero : (p : Purse) → is_zero_purse p ≡ true → p ≡ zero_purse
unfolding is_zero_purse
purse_zero p h =
    let a : Bool = eqb p.balance.0 0 in
    let b : Bool = eqb p.next.0 0 in
    let c : Bool = eqb p.status 0 in
    let d : Bool = eqb p.logged 0 in
    let e : Bool = same_details p.details zero_details in
    let f : Bool = eqb (length p.log) 8 in
    let g : Bool = all (λ (d : Details). same_details d zero_details) p.log in
    let h6 : (a && b && c && d && e && f) ≡ true = and_l (a && b && c && d && e && f) g h in
    let h5 : (a && b && c && d && e) ≡ true = and_l (a && b && c && d && e) f h6 in
    let h4 : (a && b && c && d) ≡ true = and_l (a && b && c && d) e h5 in
    let h3 : (a && b && c) ≡ true = and_l (a && b && c) d h4 in
    let h2 : (a && b) ≡ true = and_l (a && b) c h3 in
    let ea : p.balance.0 ≡ 0 = eqb-true _ _ (and_l a b h2) in
    let eb : p.next.0 ≡ 0 = eqb-true _ _ (and_r a b h2) in
    let ec : p.status ≡ 0 = eqb-true _ _ (and_r (a && b) c h3) in
    let ed : p.logged ≡ 0 = eqb-true _ _ (and_r (a && b && c) d h4) in
    let ee : p.details ≡ zero_details = details_equal _ zero_details (and_r (a && b && c && d) e h5) in
    let ef : length p.log ≡ 8 = eqb-true _ _ (and_r (a && b && c && d && e) f h6) in
    let el : p.log ≡ replicate 8 zero_details =
    replicate-all (λ (d : Details). same_details d zero_details) zero_details (λ (d : Details). details_equal d zero_details) p.log (and_r (a && b && c && d && e && f) g h)
    ∙ ap (λ (n : ℕ). replicate n zero_details) ef
    in
    λ i. record { balance = record { 0 = ea i }; next = record { 0 = eb i }; status = ec i; details = ee i; log = el i; logged = ed i }

zero_purse_lem : is_zero_purse zero_purse ≡ true
unfolding is_zero_purse same_details
zero_purse_lem = refl

zero_message_lem : is_zero_message zero_message ≡ true
unfolding is_zero_message same_message same_details
zero_message_lem = refl

zero_entry_lem : is_zero_entry zero_entry ≡ true
unfolding is_zero_entry same_entry same_details
zero_entry_lem = refl

-- a bench is read back from its places
pub seen-laid : (b : Bench) → seen (laid b) ≡ b
seen-laid b =
    let p : take (length b.purses) (padded 32 zero_purse b.purses) ≡ b.purses = taken_back 32 zero_purse b.purses in
    let m : take (length b.messages) (padded 256 zero_message b.messages) ≡ b.messages = taken_back 256 zero_message b.messages in
    let e : take (length b.archive) (padded 256 zero_entry b.archive) ≡ b.archive = taken_back 256 zero_entry b.archive in
    λ i. record { purses = p i; messages = m i; archive = e i }

-- a table and desk that obey the rules, part by part
pub record Obeys (h : Held) : Type 0 where
  pub purses : places_ok is_zero_purse 32 h.desk.purses h.table ≡ true
  pub messages : places_ok is_zero_message 256 h.desk.ether.count h.desk.ether.places ≡ true
  pub entries : places_ok is_zero_entry 256 h.desk.archive.count h.desk.archive.places ≡ true
  pub lists : table_ok (seen h) ≡ true

pub obeys : (h : Held) → held_ok h ≡ true → Obeys h
unfolding held_ok
obeys h w =
    let p : Bool = places_ok is_zero_purse 32 h.desk.purses h.table in
    let m : Bool = places_ok is_zero_message 256 h.desk.ether.count h.desk.ether.places in
    let e : Bool = places_ok is_zero_entry 256 h.desk.archive.count h.desk.archive.places in
    let w3 : (p && m && e) ≡ true = and_l (p && m && e) (table_ok (seen h)) w in
    let w2 : (p && m) ≡ true = and_l (p && m) e w3 in
    record { purses = and_l p m w2; messages = and_r p m w2; entries = and_r (p && m) e w3; lists = and_r (p && m && e) (table_ok (seen h)) w }

pub obeyed : (h : Held) → Obeys h → held_ok h ≡ true
unfolding held_ok
obeyed h o = and_i (and_i (and_i o.purses o.messages) o.entries) o.lists

-- lists that obey the rules obey them in their places
pub held-laid : (b : Bench) → table_ok b ≡ true → held_ok (laid b) ≡ true
held-laid b w =
    let t : Table b = is_table b w in
    obeyed (laid b) (record {
      purses = places-laid is_zero_purse zero_purse zero_purse_lem 32 b.purses t.few;
      messages = places-laid is_zero_message zero_message zero_message_lem 256 b.messages t.few_messages;
      entries = places-laid is_zero_entry zero_entry zero_entry_lem 256 b.archive t.few_entries;
      lists = ap table_ok (seen-laid b) ∙ w;
    })

-- the lists of a well-formed table and desk obey the rules
pub seen_ok : (h : Held) → held_ok h ≡ true → table_ok (seen h) ≡ true
seen_ok h w = (obeys h w).lists

-- a well-formed table and desk are their lists, laid out
pub laid-seen : (h : Held) → held_ok h ≡ true → laid (seen h) ≡ h
laid-seen h w =
    let o : Obeys h = obeys h w in
    let tp = laid-places is_zero_purse 32 h.desk.purses h.table o.purses zero_purse purse_zero in
    let tm = laid-places is_zero_message 256 h.desk.ether.count h.desk.ether.places o.messages zero_message message_zero in
    let te = laid-places is_zero_entry 256 h.desk.archive.count h.desk.archive.places o.entries zero_entry entry_zero in
    let np = places_used is_zero_purse 32 h.desk.purses h.table o.purses in
    let nm = places_used is_zero_message 256 h.desk.ether.count h.desk.ether.places o.messages in
    let ne = places_used is_zero_entry 256 h.desk.archive.count h.desk.archive.places o.entries in
    λ i. record {
      table = tp i;
      desk = record { purses = np i; ether = record { places = tm i; count = nm i }; archive = record { places = te i; count = ne i } };
    }

-- the step on laid lists is the step on the lists
pub step-laid : (b : Bench) (l : List ℕ) → table_ok b ≡ true → held_step (laid b) l ≡ record { answer = (step b l).answer; held = laid (step b l).bench }
unfolding held_step step
step-laid b l w =
    rw (held-laid b w, w)
    (λ i. record { answer = (acting (seen-laid b i) (decoded l)).answer; held = laid (acting (seen-laid b i) (decoded l)).bench })
