-- Every event is one of twelve moves (a refusal stays, and so does an abort of an idle purse). What holds of each move holds of every step: the
-- case analysis of the bench's step, made once.
-- Assumes nothing.
use Prim.Native.Nat.{ℕ, ◌≤◌, ◌<◌}
use mathlib.Core.Path.{◌≡◌, refl, sym}
use mathlib.Core.Bool.{Bool, true, false, not, cond}
use mathlib.Core.Logic.{◌⊎◌, inl, inr, ⊎_elim}
use mathlib.Core.List.{List, [], ◌∷◌, ◌++◌}
use lib.ListN.{length, get_or}
use lib.Seq.{set-get_or}
use lib.Dec.{ltb, leb, eqb}
use native.Mathlib.Omega.{arith}
use borrow.Author.Tests.{leb-false, ltb-true, ltb-false, eqb-true, eqb-false, ne_eqb, lt-leb, le-leb}
use Rattle.purse.specs.declared.Name.{Name}
use Rattle.purse.specs.declared.Seq.{Seq}
use Rattle.purse.specs.declared.Amount.{Amount}
use Rattle.purse.specs.declared.Details.{Details}
use Rattle.purse.specs.declared.Message.{Message}
use Rattle.purse.specs.declared.Purse.{Purse}
use Rattle.purse.specs.declared.CardAnswer.{CardAnswer}
use Rattle.purse.specs.Details.{request, value, acknowledge, zero_details, zero_message, same_details, same_message, legal}
use Rattle.purse.specs.Tests.{◌⇒◌}
use Rattle.purse.specs.Purse.{epr, epv, ceiling, zero_purse, well_formed}
use Rattle.purse.specs.Step as card
use Rattle.purse.specs.Step.{own_tests, from_details, to_details, refused_by, begun_with, idle_with, stopped, taken, delivered, received, expected, from_number, to_number, abort_number, deliver_number, collect_number, deliver_to, abort_by, collect_by, raise_tests, raised, load_number, load_by}
use Rattle.purse.specs.Lists.{without}
use Rattle.purse.proofs.Bools.{and_l, which}
use Rattle.purse.proofs.Steps.{ready_from, ready_to, deliver_passed, deliver_get, expected_status, collect_some, Raises, load_passed}
use Rattle.purse.proofs.Keep.{keep_from, keep_to, keep-paid, keep-idle, keep-stopped, keep_taken, keep-raised}
use Rattle.purse.proofs.Rules.{wf_bounds}
use Rattle.purse.proofs.Count.{times_at}
use Rattle.rules.specs.declared.Event.{Event}
use Rattle.rules.specs.declared.Event.TheVariants.{Malformed, StartFrom, StartTo, Deliver, Abort, Lose, Collect, Issue, Load}
use Rattle.rules.specs.Bench.{Bench, called, opened_at, purse_at, message_at}
use Rattle.rules.specs.Table.{table_ok}
use Rattle.rules.specs.Steps.{Answer, class_ok, refused, with_purse, with_new, with_messages, with_archive, carried, archiving, acting, step, no_purse, no_message}
use Rattle.rules.specs.Events.{decoded}
use Rattle.rules.specs.Paid.{Effect, nothing, delivers, adds, effect_of, effect_by}
use Rattle.rules.proofs.Facts.{details_equal, message_equal, message_same, count_m, MessageOk, Table}
use Rattle.rules.proofs.Ladders.{first_high}

-- the details of a start by purse p
abbrev pub from_of : Bench → ℕ → Name → Seq → Amount → Details
from_of b p o s a = from_details (purse_at b p) (called p) o s a

abbrev pub to_of : Bench → ℕ → Name → Seq → Amount → Details
to_of b p o s a = to_details (purse_at b p) (called p) o s a

abbrev pub message_of : ℕ → Details → Message
message_of k d = record { kind = k; details = d }

-- purse p after each move
abbrev pub begun_from : Bench → ℕ → Name → Seq → Amount → Purse
begun_from b p o s a = begun_with epr (from_of b p o s a) (purse_at b p)

abbrev pub begun_to : Bench → ℕ → Name → Seq → Amount → Purse
begun_to b p o s a = begun_with epv (to_of b p o s a) (purse_at b p)

abbrev pub payer_after : Bench → ℕ → Purse
payer_after b p = (card.paid (purse_at b p)).purse

abbrev pub payee_after : Bench → ℕ → Purse
payee_after b p = (received (purse_at b p)).purse

abbrev pub idle_after : Bench → ℕ → Purse
idle_after b p = idle_with (purse_at b p).balance (purse_at b p)

pub record Started (b : Bench) (p o : ℕ) : Type 0 where
  pub here : p < length b.purses
  pub other : o < length b.purses
  pub idle : (purse_at b p).status ≡ 0

-- purse p takes a message of kind k that stands: its status is that number
pub record Taking (b : Bench) (p k : ℕ) : Type 0 where
  pub here : p < length b.purses
  pub status : (purse_at b p).status ≡ k
  pub stands : 1 ≤ count_m (message_of k (purse_at b p).details) b.messages

-- the messages after one was sent: it stands at the end, or it was lost
abbrev pub Sent : Bench → Message → List Message → Type 0
Sent b m ms = (ms ≡ b.messages) ⊎ ((ms ≡ b.messages ++ (m ∷ [])) × (length b.messages < 256))

abbrev pub Good : ℕ → Purse → Type 0
Good p q = well_formed (called p) q ≡ true

-- a payment paid, a payment that arrived
abbrev pub pays : Details → Effect
pays d = record { paid = d ∷ []; arrived = []; added = [] }

abbrev pub gets : Details → Effect
gets d = record { paid = []; arrived = d ∷ []; added = [] }

-- what holds of each move: Q is a fact of the bench after it and of what it moved
pub record Moves (b : Bench) (Q : Bench → Effect → Type 0) : Type 0 where
  pub stays : Q b nothing
  pub from : (p : ℕ) (o : Name) (s : Seq) (a : Amount) → Started b p o.0 → Good p (begun_from b p o s a) → Q (with_purse b p (begun_from b p o s a)) nothing
  pub to : (p : ℕ) (o : Name) (s : Seq) (a : Amount) → Started b p o.0 → Good p (begun_to b p o s a) → (ms : List Message) → Sent b (message_of request (to_of b p o s a)) ms → Q (with_messages (with_purse b p (begun_to b p o s a)) ms) nothing
  pub pay : (p : ℕ) → Taking b p request → Good p (payer_after b p) → (ms : List Message) → Sent b (message_of value (purse_at b p).details) ms → Q (with_messages (with_purse b p (payer_after b p)) ms) (pays (purse_at b p).details)
  pub get : (p : ℕ) → Taking b p value → Good p (payee_after b p) → (ms : List Message) → Sent b (message_of acknowledge (purse_at b p).details) ms → Q (with_messages (with_purse b p (payee_after b p)) ms) (gets (purse_at b p).details)
  pub settle : (p : ℕ) → Taking b p acknowledge → Good p (idle_after b p) → Q (with_purse b p (idle_after b p)) nothing
  pub quit : (p : ℕ) → p < length b.purses → (purse_at b p).status ≡ 1 → Good p (idle_after b p) → Q (with_purse b p (idle_after b p)) nothing
  pub stop : (p : ℕ) → p < length b.purses → 2 ≤ (purse_at b p).status → Good p (stopped (purse_at b p)) → Q (with_purse b p (stopped (purse_at b p))) nothing
  pub drop : (i : ℕ) → i < length b.messages → Q (with_messages b (without i b.messages)) nothing
  pub collect : (p : ℕ) → p < length b.purses → 0 < (purse_at b p).logged → Good p (taken (purse_at b p)) → length b.archive < 256 → Q (with_archive (with_purse b p (taken (purse_at b p))) (b.archive ++ (record { by = called p; details = get_or (purse_at b p).log 0 zero_details } ∷ []))) nothing
  pub issue : (v : ℕ) → length b.purses < 32 → v ≤ ceiling (opened_at v) → Q (with_new b v) (adds (length b.purses) v)
  pub load : (p : ℕ) (a : Amount) → p < length b.purses → (purse_at b p).status ≡ 0 → Good p (raised a (purse_at b p)) → Q (with_purse b p (raised a (purse_at b p))) (adds p a.0)

deliver_high : (q : Purse) (own : Name) (m : Message) → (deliver_number q own m ≡ 0 → ⊥) → 2 ≤ deliver_number q own m
unfolding deliver_number
deliver_high q own m h = first_high (own_tests q own ++ ((not (expected q m) ⇒ 13) ∷ [])) refl h

load_high : (q : Purse) (own : Name) (a : Amount) → (load_number q own a ≡ 0 → ⊥) → 2 ≤ load_number q own a
unfolding load_number
load_high q own a h = first_high (own_tests q own ++ ((not (legal a) ⇒ 7) ∷ raise_tests q a)) refl h

module _ (b : Bench) where
  -- by the card's number
  pub by_card : (T : Answer → Type 0) (p n : ℕ) (x : CardAnswer) → (n ≡ 0 → T (carried b p x)) → ((n ≡ 0 → ⊥) → T (refused n b)) → T (carried b p (cond (eqb n 0) x (refused_by n (purse_at b p))))
  by_card T p n x f g =
      ⊎_elim (λ (e : eqb n 0 ≡ true). rw e (f (eqb-true n 0 e))) (λ (e : eqb n 0 ≡ false). rw (e, e) (g (eqb-false n 0 e)))
      (which (eqb n 0))

  -- a message is sent, with the number that it answers
  pub by_room : (T : Answer → Type 0) (p : ℕ) (q : Purse) (m : Message) → ((ms : List Message) (n : ℕ) → n ≤ 1 → Sent b m ms → T (record { answer = n; bench = with_messages (with_purse b p q) ms })) → T (cond (ltb (length b.messages) 256) (record { answer = 0; bench = with_messages (with_purse b p q) (b.messages ++ (m ∷ [])) }) (record { answer = 1; bench = with_purse b p q }))
  by_room T p q m f =
      ⊎_elim
      (λ (e : ltb (length b.messages) 256 ≡ true). rw e (f (b.messages ++ (m ∷ [])) 0 (omega arith) (inr (refl, ltb-true _ _ e))))
      (λ (e : ltb (length b.messages) 256 ≡ false). rw e (f b.messages 1 (omega arith) (inl refl)))
      (which (ltb (length b.messages) 256))

  -- a test of the bench's own
  pub by_test : (T : Answer → Type 0) (x : Bool) (n : ℕ) (a : Answer) → (x ≡ true → T (refused n b)) → (x ≡ false → T a) → T (cond x (refused n b) a)
  by_test T true n a f g = f refl
  by_test T false n a f g = g refl

module _ (b : Bench) (t : Table b) (Q : Bench → Effect → Type 0) (v : Moves b Q) where
  -- an answer to an event that moves x where it is done
  abbrev By : Effect → Answer → Type 0
  By x a = Q a.bench (cond (leb a.answer 1) x nothing)

  -- an event that moves nothing
  abbrev Quiet : Answer → Type 0
  Quiet = By nothing

  plain : (x : Bool) (c : Bench) → Q c nothing → Q c (cond x nothing nothing)
  plain true c h = h
  plain false c h = h

  quiet : (a : Answer) → Q a.bench nothing → Quiet a
  quiet a h = plain (leb a.answer 1) a.bench h

  stayed : (n : ℕ) → Quiet (refused n b)
  stayed n = quiet (refused n b) v.stays

  refusal : (x : Effect) (n : ℕ) → 2 ≤ n → By x (refused n b)
  refusal x n h = rw (lt-leb n 1 h) v.stays

  from_moves : (p : ℕ) (o : Name) (s : Seq) (a : Amount) → p < length b.purses → o.0 < length b.purses → Quiet (carried b p (card.start_from (purse_at b p) (called p) o s a))
  unfolding card.start_from
  from_moves p o s a hp ho =
      by_card b Quiet p (from_number (purse_at b p) (called p) o a) _
      (λ z. v.from p o s a (record { here = hp; other = ho; idle = (ready_from (purse_at b p) (called p) o a z).idle }) (keep_from (purse_at b p) (called p) o s a z))
      (λ z. stayed (from_number (purse_at b p) (called p) o a))

  to_moves : (p : ℕ) (o : Name) (s : Seq) (a : Amount) → p < length b.purses → o.0 < length b.purses → Quiet (carried b p (card.start_to (purse_at b p) (called p) o s a))
  unfolding card.start_to
  to_moves p o s a hp ho =
      by_card b Quiet p (to_number (purse_at b p) (called p) o a) _
      (λ z.
      by_room b Quiet p (begun_to b p o s a) (message_of request (to_of b p o s a)) (λ ms n l w.
      quiet (record { answer = n; bench = with_messages (with_purse b p (begun_to b p o s a)) ms })
      (v.to p o s a (record { here = hp; other = ho; idle = (ready_to (purse_at b p) (called p) o a z).idle }) (keep_to (purse_at b p) (called p) o s a z) ms w)))
      (λ z. stayed (to_number (purse_at b p) (called p) o a))

  -- a delivery that the card takes
  taken_message : (p : ℕ) (m : Message) → p < length b.purses → 1 ≤ count_m m b.messages → deliver_number (purse_at b p) (called p) m ≡ 0 → (k : ℕ) → m.kind ≡ k → Taking b p k × ((purse_at b p).details ≡ m.details)
  unfolding expected
  taken_message p m hp hm z k e =
      let x : expected (purse_at b p) m ≡ true = (deliver_passed (purse_at b p) (called p) m z).1 in
      let d : (purse_at b p).details ≡ m.details = details_equal _ _ (and_l (same_details (purse_at b p).details m.details) _ x) in
      let f : m ≡ message_of k (purse_at b p).details = λ i. record { kind = e i; details = sym d i } in
      (record { here = hp; status = expected_status (purse_at b p) m k x e; stands = rw f at hm }, d)

  deliver_moves : (p : ℕ) (m : Message) → p < length b.purses → 1 ≤ count_m m b.messages → By (delivers m) (carried b p (deliver_to (purse_at b p) (called p) m))
  unfolding deliver_to
  deliver_moves p m hp hm =
      by_card b (By (delivers m)) p (deliver_number (purse_at b p) (called p) m) (delivered (purse_at b p) m.kind)
      (λ (z : deliver_number (purse_at b p) (called p) m ≡ 0).
      let w : well_formed (called p) (purse_at b p) ≡ true = t.well p hp in
      ⊎_elim
      (λ (e : eqb m.kind 1 ≡ true).
      let k : m.kind ≡ 1 = eqb-true _ _ e in
      let g : Taking b p request × ((purse_at b p).details ≡ m.details) = taken_message p m hp hm z 1 k in
      rw (e, ne_eqb m.kind 2 (λ (y : m.kind ≡ 2). omega arith))
      (by_room b (By (pays m.details)) p (payer_after b p) (message_of value (purse_at b p).details) (λ ms n l s.
      rw (le-leb n 1 l, ← g.1) (v.pay p g.0 (keep-paid (purse_at b p) (called p) g.0.status w) ms s))))
      (λ (e : eqb m.kind 1 ≡ false).
      ⊎_elim
      (λ (f : eqb m.kind 2 ≡ true).
      let k : m.kind ≡ 2 = eqb-true _ _ f in
      let g : Taking b p value × ((purse_at b p).details ≡ m.details) = taken_message p m hp hm z 2 k in
      rw (e, f)
      (by_room b (By (gets m.details)) p (payee_after b p) (message_of acknowledge (purse_at b p).details) (λ ms n l s.
      rw (le-leb n 1 l, ← g.1) (v.get p g.0 (keep-idle (purse_at b p) (called p) (received (purse_at b p)).purse.balance (deliver_get (purse_at b p) (called p) m z k) w) ms s))))
      (λ (f : eqb m.kind 2 ≡ false).
      let o : MessageOk b m = t.message m hm in
      let n1 : (m.kind ≡ 1 → ⊥) = eqb-false _ _ e in
      let n2 : (m.kind ≡ 2 → ⊥) = eqb-false _ _ f in
      let k : m.kind ≡ 3 = omega (arith, o.low, o.high) in
      let g : Taking b p acknowledge × ((purse_at b p).details ≡ m.details) = taken_message p m hp hm z 3 k in
      rw (e, f) (v.settle p g.0 (keep-idle (purse_at b p) (called p) (purse_at b p).balance (wf_bounds (called p) (purse_at b p) w).balance w)))
      (which (eqb m.kind 2)))
      (which (eqb m.kind 1)))
      (λ z. refusal (delivers m) (deliver_number (purse_at b p) (called p) m) (deliver_high (purse_at b p) (called p) m z))

  abort_moves : (p : ℕ) → p < length b.purses → Quiet (carried b p (abort_by (purse_at b p) (called p)))
  unfolding abort_by
  abort_moves p hp =
      by_card b Quiet p (abort_number (purse_at b p) (called p)) _
      (λ z.
      let w : well_formed (called p) (purse_at b p) ≡ true = t.well p hp in
      ⊎_elim
      (λ (e : eqb (purse_at b p).status 0 ≡ true). rw (e, set-get_or b.purses p zero_purse) v.stays)
      (λ (e : eqb (purse_at b p).status 0 ≡ false).
      let busy : ((purse_at b p).status ≡ 0 → ⊥) = eqb-false _ _ e in
      ⊎_elim
      (λ (f : eqb (purse_at b p).status 1 ≡ true).
      rw (e, f) (v.quit p hp (eqb-true _ _ f) (keep-idle (purse_at b p) (called p) (purse_at b p).balance (wf_bounds (called p) (purse_at b p) w).balance w)))
      (λ (f : eqb (purse_at b p).status 1 ≡ false).
      let n1 : ((purse_at b p).status ≡ 1 → ⊥) = eqb-false _ _ f in
      rw (e, f) (v.stop p hp (omega arith) (keep-stopped (purse_at b p) (called p) busy w)))
      (which (eqb (purse_at b p).status 1)))
      (which (eqb (purse_at b p).status 0)))
      (λ z. stayed (abort_number (purse_at b p) (called p)))

  collect_moves : (p : ℕ) → p < length b.purses → Quiet (archiving b p (collect_by (purse_at b p) (called p)))
  unfolding collect_by
  collect_moves p hp =
      let n : ℕ = collect_number (purse_at b p) (called p) in
      ⊎_elim
      (λ (e : eqb (collect_number (purse_at b p) (called p)) 0 ≡ true).
      let o : 0 < (purse_at b p).logged = collect_some (purse_at b p) (called p) (eqb-true _ _ e) in
      rw e
      (⊎_elim
      (λ (f : leb 256 (length b.archive) ≡ true). rw f v.stays)
      (λ (f : leb 256 (length b.archive) ≡ false).
      rw f (v.collect p hp o (keep_taken (purse_at b p) (called p) o (t.well p hp)) (leb-false _ _ f)))
      (which (leb 256 (length b.archive)))))
      (λ (e : eqb (collect_number (purse_at b p) (called p)) 0 ≡ false). rw (e, e) (stayed (collect_number (purse_at b p) (called p))))
      (which (eqb (collect_number (purse_at b p) (called p)) 0))

  load_moves : (p : ℕ) (a : Amount) → p < length b.purses → By (adds p a.0) (carried b p (load_by (purse_at b p) (called p) a))
  unfolding load_by
  load_moves p a hp =
      by_card b (By (adds p a.0)) p (load_number (purse_at b p) (called p) a) _
      (λ z.
      let r : Raises (purse_at b p) a = load_passed (purse_at b p) (called p) a z in
      v.load p a hp r.idle (keep-raised (purse_at b p) (called p) a r (t.well p hp)))
      (λ z. refusal (adds p a.0) (load_number (purse_at b p) (called p) a) (load_high (purse_at b p) (called p) a z))

  pub event_moves : (e : Event) → By (effect_of b e) (acting b e)
  unfolding acting
  event_moves Malformed = v.stays
  event_moves (StartFrom p o s a) =
      by_test b Quiet (no_purse b p.0) 4 _ (λ no. v.stays) (λ hp.
      by_test b Quiet (no_purse b o.0) 6 _ (λ no. v.stays) (λ ho. from_moves p.0 o s a (leb-false _ _ hp) (leb-false _ _ ho)))
  event_moves (StartTo p o s a) =
      by_test b Quiet (no_purse b p.0) 4 _ (λ no. v.stays) (λ hp.
      by_test b Quiet (no_purse b o.0) 6 _ (λ no. v.stays) (λ ho. to_moves p.0 o s a (leb-false _ _ hp) (leb-false _ _ ho)))
  event_moves (Deliver p i) =
      by_test b (By (delivers (message_at b i))) (no_purse b p.0) 4 _ (λ no. v.stays) (λ hp.
      by_test b (By (delivers (message_at b i))) (no_message b i) 5 _ (λ no. v.stays) (λ hi.
      deliver_moves p.0 (message_at b i) (leb-false _ _ hp) (times_at same_message message_equal message_same b.messages i zero_message (leb-false _ _ hi))))
  event_moves (Abort p) = by_test b Quiet (no_purse b p.0) 4 _ (λ no. v.stays) (λ hp. abort_moves p.0 (leb-false _ _ hp))
  event_moves (Lose i) = by_test b Quiet (no_message b i) 5 _ (λ no. v.stays) (λ hi. v.drop i (leb-false _ _ hi))
  event_moves (Collect p) = by_test b Quiet (no_purse b p.0) 4 _ (λ no. v.stays) (λ hp. collect_moves p.0 (leb-false _ _ hp))
  event_moves (Issue class w) =
      by_test b (By (adds (length b.purses) w.0)) (leb 32 (length b.purses)) 24 _ (λ no. v.stays) (λ few.
      by_test b (By (adds (length b.purses) w.0)) (not (class_ok class)) 22 _ (λ no. v.stays) (λ ok.
      by_test b (By (adds (length b.purses) w.0)) (ltb (ceiling (opened_at w.0)) w.0) 21 _ (λ no. v.stays) (λ low.
      v.issue w.0 (leb-false _ _ few) (ltb-false _ _ low))))
  event_moves (Load p a) = by_test b (By (adds p.0 a.0)) (no_purse b p.0) 4 _ (λ no. v.stays) (λ hp. load_moves p.0 a (leb-false _ _ hp))

  -- every step of a well-formed bench is one of the moves
  pub step_moves : table_ok b ≡ true → (l : List ℕ) → Q (step b l).bench (effect_by b l)
  unfolding step effect_by
  step_moves w l = rw w (event_moves (decoded l))
