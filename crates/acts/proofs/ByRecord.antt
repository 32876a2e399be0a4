-- The bench's step is `act_on` at the one record that the event is seen to mean, put back at its place.
-- Why: on lists laid out in their places a read, a store, a message more or less and an entry more are those of the lists (the laws of
-- Padded), and each kind's tests are the same numbers; a refusal puts back the record that was read.
-- Assumes nothing.
use Prim.Native.Nat.{ℕ, suc, ◌+◌, ◌-◌, ◌≤◌, ◌<◌}
use mathlib.Core.Path.{◌≡◌, ◌∙◌, sym, ap}
use mathlib.Core.Bool.{true, false, not, cond}
use mathlib.Core.Logic.{⊎_elim}
use mathlib.Core.List.{List, [], ◌∷◌, ◌++◌}
use lib.ListN.{length, get_or, take, drop, set, length-set, length-append, length-drop, get_or-eq_default}
use lib.Seq.{set-get_or, length-take-le}
use lib.Dec.{ltb, leb, eqb}
use native.Mathlib.Omega.{arith}
use borrow.Author.Tests.{leb-false, ltb-true, le-leb, lt-ltb}
use Rattle.purse.specs.declared.Name.{Name}
use Rattle.purse.specs.declared.Amount.{Amount}
use Rattle.purse.specs.declared.Details.{Details}
use Rattle.purse.specs.declared.Message.{Message}
use Rattle.purse.specs.declared.Purse.{Purse}
use Rattle.purse.specs.declared.CardAnswer.{CardAnswer}
use Rattle.purse.specs.declared.CardEvent.{CardEvent}
use Rattle.purse.specs.declared.CardEvent.TheVariants as card
use Rattle.purse.specs.Lists.{padded, without}
use Rattle.purse.specs.Tests.{first}
use Rattle.purse.specs.Details.{zero_details, zero_message}
use Rattle.purse.specs.Purse.{ceiling, zero_purse, opened_purse}
use Rattle.refusals.specs.Heads.{head_of}
use Rattle.refusals.specs.Numbers.{collect_number}
use Rattle.turns.specs.declared.Turned.{Turned}
use Rattle.turns.specs.Turns.{taken_at, turn_collect, turn_by}
use Rattle.card.specs.Act.{record_after, answered_by, act_by}
use Rattle.card.proofs.ByAct.{step_act}
use Rattle.purse.proofs.Bools.{which}
use Rattle.purse.proofs.Padded.{set-padded, push_padded, pull_padded, read_anywhere, read_padded}
use Rattle.desk.specs.declared.Entry.{Entry}
use Rattle.desk.specs.declared.Desk.{Desk}
use Rattle.desk.specs.declared.Held.{Held}
use Rattle.desk.specs.declared.Answered.{Answered}
use Rattle.desk.specs.Desk.{zero_entry, appended, taken_out, stored}
use Rattle.rules.specs.declared.Event.{Event}
use Rattle.rules.specs.declared.Event.TheVariants.{Malformed, StartFrom, StartTo, Deliver, Abort, Lose, Collect, Issue, Load}
use Rattle.rules.specs.Bench.{Bench, called, opened_at, purse_at, message_at}
use Rattle.rules.specs.Events.{decoded}
use Rattle.rules.specs.Steps.{Answer, class_ok, refused, with_purse, sending, carried, archiving, told, no_purse, starting, delivering, losing, collecting, issuing, acting}
use Rattle.rules.specs.Laid.{laid, seen, held_ok, held_step}
use Rattle.rules.proofs.Places.{seen_ok, laid-seen}
use Rattle.rules.proofs.Facts.{Table, is_table}
use Rattle.asks.specs.declared.Asked.TheVariants as asks
use Rattle.acts.specs.declared.Change.TheVariants as change
use Rattle.asks.specs.Asks.{place_in, place_of, delivered_at, start_tests, deliver_tests, purse_tests, lose_tests, issue_tests, to_tell, to_collect, to_lose, to_issue, asked}
use Rattle.acts.specs.Acts.{or_full, told_at, to_send, change_of, one_more, carried_out, refused_on, settled, answered_on, act_on, put_back, by_record}

-- an answer on the lists, laid out
abbrev shown : Answer → Answered
shown a = record { answer = a.answer; held = laid a.bench }

-- what is refused puts back the record that was read
pub stays : (h : Held) (n i : ℕ) → record { answer = n; held = h } ≡ put_back h i (refused_on n (get_or h.table i zero_purse) h.desk)
stays h n i =
    ap (λ (t : List Purse). record { answer = n; held = record { table = t; desk = h.desk } })
    (sym (set-get_or h.table i zero_purse))

-- a name in the table is its own place
place_in_lem : (b : Bench) (t : Table b) (own : Name) → own.0 < length b.purses → place_in own ≡ own.0
place_in_lem b t own h = rw (le-leb own.0 31 (omega (arith, t.few)))

module _ (b : Bench) where
  abbrev desk : Desk
  desk = (laid b).desk

  -- one purse replaced
  put-laid : (p : ℕ) (q : Purse) → p < length b.purses → laid (with_purse b p q) ≡ record { table = set (laid b).table p q; desk = desk }
  put-laid p q h =
      let t : set (padded 32 zero_purse b.purses) p q ≡ padded 32 zero_purse (set b.purses p q) = set-padded 32 zero_purse b.purses p q h in
      let n : length (set b.purses p q) ≡ length b.purses = length-set b.purses p q in
      λ i. record { table = sym t i; desk = record { purses = n i; ether = desk.ether; archive = desk.archive } }

  -- one purse replaced and its message sent
  sent_laid : (p : ℕ) (q : Purse) (m : Message) → p < length b.purses → shown (sending (with_purse b p q) m) ≡ put_back (laid b) p (carried_out q desk (to_send m))
  unfolding to_send carried_out appended
  sent_laid p q m h =
      ⊎_elim
      (λ (k : eqb m.kind 0 ≡ true). rw k (ap (λ (x : Held). record { answer = 0; held = x }) (put-laid p q h)))
      (λ (k : eqb m.kind 0 ≡ false).
      rw k
      (⊎_elim
      (λ (r : ltb (length b.messages) 256 ≡ true).
      let t : set (padded 32 zero_purse b.purses) p q ≡ padded 32 zero_purse (set b.purses p q) = set-padded 32 zero_purse b.purses p q h in
      let n : length (set b.purses p q) ≡ length b.purses = length-set b.purses p q in
      let s : set (padded 256 zero_message b.messages) (length b.messages) m ≡ padded 256 zero_message (b.messages ++ (m ∷ [])) = push_padded 256 zero_message b.messages m (ltb-true _ _ r) in
      let c : length (b.messages ++ (m ∷ [])) ≡ length b.messages + 1 = length-append b.messages (m ∷ []) in
      rw r
      (λ i. record {
        answer = 0;
        held =
            record {
              table = sym t i;
              desk = record { purses = n i; ether = record { places = sym s i; count = c i }; archive = desk.archive };
            };
      }))
      (λ (r : ltb (length b.messages) 256 ≡ false).
      rw r (ap (λ (x : Held). record { answer = 1; held = x }) (put-laid p q h)))
      (which (ltb (length b.messages) 256))))
      (which (eqb m.kind 0))

module _ (b : Bench) (t : Table b) (own : Name) where
  -- the record that is looked up
  abbrev here : Purse
  here = get_or (laid b).table (place_in own) zero_purse

  module _ (h : own.0 < length b.purses) where
    found : here ≡ purse_at b own.0
    found =
        ap (λ (i : ℕ). get_or (laid b).table i zero_purse) (place_in_lem b t own h)
        ∙ read_padded 32 zero_purse b.purses own.0 h

    -- what the card made of the head, put together, and its message sent
    carried-laid : (u : Turned) → shown (carried b own.0 (answered_by here u)) ≡ put_back (laid b) (place_in own) (settled here (laid b).desk u (to_send u.message))
    unfolding settled
    carried-laid u =
        ⊎_elim
        (λ (k : eqb u.answer 0 ≡ true).
        let q : Purse = record_after here u.head u.log in
        rw k
        (sent_laid b own.0 q u.message h
        ∙ ap (λ (i : ℕ). put_back (laid b) i (carried_out q (laid b).desk (to_send u.message))) (sym (place_in_lem b t own h))))
        (λ (k : eqb u.answer 0 ≡ false). rw k (stays (laid b) u.answer (place_in own)))
        (which (eqb u.answer 0))

    -- what the card is told at a record of the table, which is well formed
    told_act : (e : CardEvent) → told b own.0 e ≡ act_by here own e
    told_act e =
        step_act own (purse_at b own.0) (t.well own.0 h) e ∙ ap (λ (p : Purse). act_by p own e) (sym found)

    told-laid : (e : CardEvent) → shown (carried b own.0 (told b own.0 e)) ≡ put_back (laid b) (place_in own) (answered_on here (laid b).desk (asks.Tell own e))
    unfolding told_at change_of
    told-laid e =
        ap (λ (a : CardAnswer). shown (carried b own.0 a)) (told_act e) ∙ carried-laid (turn_by (head_of here) own e)

    -- likewise, and an entry stored
    archived_laid : (u : Turned) (x : Details) → shown (archiving b own.0 (record { answer = u.answer; purse = record_after here u.head u.log; message = u.message; entry = x })) ≡ put_back (laid b) (place_in own) (settled here (laid b).desk (or_full (leb 256 (length b.archive)) u) (change.Store (record { by = own; details = x })))
    unfolding settled carried_out stored
    archived_laid u x =
        let e : Entry = record { by = own; details = x } in
        let q : Purse = record_after here u.head u.log in
        ⊎_elim
        (λ (k : eqb u.answer 0 ≡ true).
        ⊎_elim
        (λ (r : leb 256 (length b.archive) ≡ true). rw (k, r) (stays (laid b) 15 (place_in own)))
        (λ (r : leb 256 (length b.archive) ≡ false).
        let f : length b.archive < 256 = leb-false _ _ r in
        let l : set (padded 32 zero_purse b.purses) own.0 q ≡ padded 32 zero_purse (set b.purses own.0 q) = set-padded 32 zero_purse b.purses own.0 q h in
        let j : set (padded 32 zero_purse b.purses) (place_in own) q ≡ padded 32 zero_purse (set b.purses own.0 q) = ap (λ (i : ℕ). set (padded 32 zero_purse b.purses) i q) (place_in_lem b t own h) ∙ l in
        let n : length (set b.purses own.0 q) ≡ length b.purses = length-set b.purses own.0 q in
        let s : set (padded 256 zero_entry b.archive) (length b.archive) e ≡ padded 256 zero_entry (b.archive ++ (e ∷ [])) = push_padded 256 zero_entry b.archive e f in
        let c : length (b.archive ++ (e ∷ [])) ≡ length b.archive + 1 = length-append b.archive (e ∷ []) in
        rw (k, r, lt-ltb _ _ f)
        (λ i. record {
          answer = 0;
          held =
              record {
                table = sym j i;
                desk = record { purses = n i; ether = (laid b).desk.ether; archive = record { places = sym s i; count = c i } };
              };
        }))
        (which (leb 256 (length b.archive))))
        (λ (k : eqb u.answer 0 ≡ false). rw (k, k) (stays (laid b) u.answer (place_in own)))
        (which (eqb u.answer 0))

    -- a collect that is done hands out the oldest entry; one that is refused stores nothing
    collected_act : shown (archiving b own.0 (act_by here own card.Collect)) ≡ put_back (laid b) (place_in own) (answered_on here (laid b).desk (asks.Collect own (leb 256 (length b.archive))))
    unfolding settled told_at change_of turn_collect
    collected_act =
        ⊎_elim
        (λ (z : eqb (collect_number (head_of here) own) 0 ≡ true). rw z (archived_laid (taken_at (head_of here)) (get_or here.log 0 zero_details)))
        (λ (z : eqb (collect_number (head_of here) own) 0 ≡ false). rw (z, z, z) (stays (laid b) (collect_number (head_of here) own) (place_in own)))
        (which (eqb (collect_number (head_of here) own) 0))

    collected-laid : shown (archiving b own.0 (told b own.0 card.Collect)) ≡ put_back (laid b) (place_in own) (answered_on here (laid b).desk (asks.Collect own (leb 256 (length b.archive))))
    collected-laid = ap (λ (a : CardAnswer). shown (archiving b own.0 a)) (told_act card.Collect) ∙ collected_act

  starts : (other : Name) (e : CardEvent) → shown (starting b own.0 other.0 e) ≡ put_back (laid b) (place_in own) (answered_on here (laid b).desk (to_tell (first (start_tests (length b.purses) own other)) own e))
  unfolding settled told_at to_tell
  starts other e =
      ⊎_elim
      (λ (w : leb (length b.purses) own.0 ≡ true). rw w (stays (laid b) 4 (place_in own)))
      (λ (w : leb (length b.purses) own.0 ≡ false).
      rw w
      (⊎_elim
      (λ (v : leb (length b.purses) other.0 ≡ true). rw v (stays (laid b) 6 (place_in own)))
      (λ (v : leb (length b.purses) other.0 ≡ false). rw v (told-laid (leb-false _ _ w) e))
      (which (leb (length b.purses) other.0))))
      (which (leb (length b.purses) own.0))

  delivers : (i : ℕ) → shown (delivering b own.0 i) ≡ put_back (laid b) (place_in own) (answered_on here (laid b).desk (to_tell (first (deliver_tests (length b.purses) (length b.messages) own i)) own (card.Deliver (get_or (laid b).desk.ether.places i zero_message))))
  unfolding settled told_at to_tell
  delivers i =
      ⊎_elim
      (λ (w : leb (length b.purses) own.0 ≡ true). rw w (stays (laid b) 4 (place_in own)))
      (λ (w : leb (length b.purses) own.0 ≡ false).
      rw w
      (⊎_elim
      (λ (v : leb (length b.messages) i ≡ true). rw v (stays (laid b) 5 (place_in own)))
      (λ (v : leb (length b.messages) i ≡ false).
      let m : get_or (padded 256 zero_message b.messages) i zero_message ≡ message_at b i = read_padded 256 zero_message b.messages i (leb-false _ _ v) in
      rw (v, m) (told-laid (leb-false _ _ w) (card.Deliver (message_at b i))))
      (which (leb (length b.messages) i))))
      (which (leb (length b.purses) own.0))

  -- an abort, a load: after 4 the card is told
  tells : (e : CardEvent) → shown (cond (no_purse b own.0) (refused 4 b) (carried b own.0 (told b own.0 e))) ≡ put_back (laid b) (place_in own) (answered_on here (laid b).desk (to_tell (first (purse_tests (length b.purses) own)) own e))
  unfolding settled told_at to_tell
  tells e =
      ⊎_elim
      (λ (w : leb (length b.purses) own.0 ≡ true). rw w (stays (laid b) 4 (place_in own)))
      (λ (w : leb (length b.purses) own.0 ≡ false). rw w (told-laid (leb-false _ _ w) e))
      (which (leb (length b.purses) own.0))

  collects : shown (collecting b own.0) ≡ put_back (laid b) (place_in own) (answered_on here (laid b).desk (to_collect (first (purse_tests (length b.purses) own)) own (length b.archive)))
  unfolding settled told_at to_collect
  collects =
      ⊎_elim
      (λ (w : leb (length b.purses) own.0 ≡ true). rw w (stays (laid b) 4 (place_in own)))
      (λ (w : leb (length b.purses) own.0 ≡ false). rw w (collected-laid (leb-false _ _ w)))
      (which (leb (length b.purses) own.0))

loses : (b : Bench) (t : Table b) (i : ℕ) → shown (losing b i) ≡ put_back (laid b) 0 (answered_on (get_or (laid b).table 0 zero_purse) (laid b).desk (to_lose (first (lose_tests (length b.messages) i)) i))
unfolding settled told_at change_of to_lose carried_out taken_out
loses b t i =
    ⊎_elim
    (λ (w : leb (length b.messages) i ≡ true). rw w (stays (laid b) 5 0))
    (λ (w : leb (length b.messages) i ≡ false).
    let h : i < length b.messages = leb-false _ _ w in
    let r : set (laid b).table 0 (get_or (laid b).table 0 zero_purse) ≡ (laid b).table = set-get_or (laid b).table 0 zero_purse in
    let s : take i (padded 256 zero_message b.messages) ++ (drop (suc i) (padded 256 zero_message b.messages) ++ (zero_message ∷ [])) ≡ padded 256 zero_message (without i b.messages) = pull_padded 256 zero_message b.messages i h t.few_messages in
    let c : length (without i b.messages) ≡ length b.messages - 1 = omega (arith, length-append (take i b.messages) (drop (suc i) b.messages), length-take-le i b.messages (omega arith), length-drop (suc i) b.messages) in
    rw (w, lt-ltb _ _ h, le-leb _ _ t.few_messages)
    (λ k. record {
      answer = 0;
      held =
          record {
            table = sym r k;
            desk =
                record {
                  purses = length b.purses;
                  ether = record { places = sym s k; count = c k };
                  archive = (laid b).desk.archive;
                };
          };
    }))
    (which (leb (length b.messages) i))

-- the record behind the others is all zero, and gets the head of an opened purse
issues : (b : Bench) (t : Table b) (class : ℕ) (v : Amount) → shown (issuing b class v.0) ≡ put_back (laid b) (place_in (called (length b.purses))) (answered_on (get_or (laid b).table (place_in (called (length b.purses))) zero_purse) (laid b).desk (to_issue (first (issue_tests (length b.purses) class v)) v))
unfolding settled told_at change_of to_issue carried_out one_more
issues b t class v =
    let n : ℕ = length b.purses in
    let i : ℕ = place_in (called n) in
    ⊎_elim
    (λ (x : leb 32 n ≡ true). rw x (stays (laid b) 24 i))
    (λ (x : leb 32 n ≡ false).
    rw x
    (⊎_elim
    (λ (y : not (class_ok class) ≡ true). rw y (stays (laid b) 22 i))
    (λ (y : not (class_ok class) ≡ false).
    rw y
    (⊎_elim
    (λ (z : ltb (ceiling (opened_at v.0)) v.0 ≡ true). rw z (stays (laid b) 21 i))
    (λ (z : ltb (ceiling (opened_at v.0)) v.0 ≡ false).
    let f : n < 32 = leb-false _ _ x in
    let end : n ≤ n = omega arith in
    let j : i ≡ n = rw (le-leb n 31 (omega arith)) in
    let r : get_or (laid b).table i zero_purse ≡ zero_purse = ap (λ (k : ℕ). get_or (laid b).table k zero_purse) j ∙ (read_anywhere 32 zero_purse b.purses n ∙ get_or-eq_default b.purses zero_purse end) in
    let s : padded 32 zero_purse (b.purses ++ (opened_purse v ∷ [])) ≡ set (laid b).table i (opened_purse v) = sym (ap (λ (k : ℕ). set (laid b).table k (opened_purse v)) j ∙ push_padded 32 zero_purse b.purses (opened_purse v) f) in
    let c : length (b.purses ++ (opened_purse v ∷ [])) ≡ n + 1 = length-append b.purses (opened_purse v ∷ []) in
    rw (z, r, lt-ltb _ _ f)
    (λ k. record { answer = 0; held = record { table = s k; desk = record { purses = c k; ether = (laid b).desk.ether; archive = (laid b).desk.archive } } }))
    (which (ltb (ceiling (opened_at v.0)) v.0))))
    (which (not (class_ok class)))))
    (which (leb 32 n))

acts : (b : Bench) (t : Table b) (e : Event) → shown (acting b e) ≡ by_record (laid b) e
unfolding acting by_record act_on settled told_at asked delivered_at place_of
acts b t Malformed = stays (laid b) 3 0
acts b t (StartFrom own other s a) = starts b t own other (card.StartFrom other s a)
acts b t (StartTo own other s a) = starts b t own other (card.StartTo other s a)
acts b t (Deliver own i) = delivers b t own i
acts b t (Abort own) = tells b t own card.Abort
acts b t (Lose i) = loses b t i
acts b t (Collect own) = collects b t own
acts b t (Issue class v) = issues b t class v
acts b t (Load own a) = tells b t own (card.Load a)

pub step_by_record : (h : Held) (l : List ℕ) → held_ok h ≡ true → held_step h l ≡ by_record h (decoded l)
unfolding held_step
step_by_record h l w =
    let t : Table (seen h) = is_table (seen h) (seen_ok h w) in
    rw w (acts (seen h) t (decoded l) ∙ ap (λ (x : Held). by_record x (decoded l)) (laid-seen h w))
