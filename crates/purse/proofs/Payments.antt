-- Payment details: each test as a record of facts, from the test (is-..) and back (..-is), and why details with a purse's next
-- number stand in no entry of it.
-- Assumes nothing.
use Prim.Native.Nat.{ℕ, ◌≤◌, ◌<◌}
use mathlib.Core.Path.{◌≡◌, refl, ◌∙◌, sym}
use mathlib.Core.Bool.{Bool, true, false, ◌&&◌, ◌||◌, not}
use mathlib.Core.Logic.{◌⊎◌, ⊎_elim}
use mathlib.Core.List.{List}
use lib.ListN.{get_or}
use lib.Dec.{ltb, leb, eqb}
use native.Mathlib.Omega.{arith}
use borrow.Author.Tests.{leb-true, ltb-true, eqb-true, eqb-false, eq-eqb, ne_eqb, le-leb, lt-ltb, not-true}
use Rattle.purse.specs.declared.Name.{Name}
use Rattle.purse.specs.declared.Seq.{Seq}
use Rattle.purse.specs.declared.Amount.{Amount}
use Rattle.purse.specs.declared.Details.{Details}
use Rattle.purse.specs.Details.{zero_details, same_details, legal, named, as_payer, as_payee, entry_ok, absent}
use Rattle.purse.proofs.Bools.{and_l, and_r, either, and_i, or_inl, or_inr, not_i, refute}
use Rattle.purse.proofs.Lists.{every_at, every-all}

-- what details must name
pub record Named (e : Details) : Type 0 where
  pub payer : e.payer.0 ≤ 31
  pub payee : e.payee.0 ≤ 31
  pub apart : e.payer.0 ≡ e.payee.0 → ⊥
  pub least : 1 ≤ e.amount.0
  pub most : e.amount.0 ≤ 5000000

pub is_named : (e : Details) → named e ≡ true → Named e
unfolding named legal
is_named e h =
    let a : (leb e.payer.0 31 && leb e.payee.0 31 && not (eqb e.payer.0 e.payee.0)) ≡ true = and_l _ (legal e.amount) h in
    let b : (leb e.payer.0 31 && leb e.payee.0 31) ≡ true = and_l _ (not (eqb e.payer.0 e.payee.0)) a in
    let l : (leb 1 e.amount.0 && leb e.amount.0 5000000) ≡ true = and_r (leb e.payer.0 31 && leb e.payee.0 31 && not (eqb e.payer.0 e.payee.0)) _ h in
    record {
      payer = leb-true _ _ (and_l (leb e.payer.0 31) (leb e.payee.0 31) b);
      payee = leb-true _ _ (and_r (leb e.payer.0 31) (leb e.payee.0 31) b);
      apart = eqb-false _ _ (not-true _ (and_r (leb e.payer.0 31 && leb e.payee.0 31) (not (eqb e.payer.0 e.payee.0)) a));
      least = leb-true _ _ (and_l (leb 1 e.amount.0) (leb e.amount.0 5000000) l);
      most = leb-true _ _ (and_r (leb 1 e.amount.0) (leb e.amount.0 5000000) l);
    }

pub named_is : (e : Details) → Named e → named e ≡ true
unfolding named legal
named_is e n = simp (le-leb _ _ n.payer, le-leb _ _ n.payee, ne_eqb _ _ n.apart, le-leb _ _ n.least, le-leb _ _ n.most)

pub record Legal (a : Amount) : Type 0 where
  pub least : 1 ≤ a.0
  pub most : a.0 ≤ 5000000

pub is_legal : (a : Amount) → legal a ≡ true → Legal a
unfolding legal
is_legal a h = record { least = leb-true _ _ (and_l (leb 1 a.0) (leb a.0 5000000) h); most = leb-true _ _ (and_r (leb 1 a.0) (leb a.0 5000000) h) }

-- two details that are the same agree in each field
pub record Same (a b : Details) : Type 0 where
  pub payer : a.payer.0 ≡ b.payer.0
  pub payerseq : a.payerseq.0 ≡ b.payerseq.0
  pub payee : a.payee.0 ≡ b.payee.0
  pub payeeseq : a.payeeseq.0 ≡ b.payeeseq.0
  pub amount : a.amount.0 ≡ b.amount.0

pub is_same : (a b : Details) → same_details a b ≡ true → Same a b
unfolding same_details
is_same a b h =
    let p : Bool = eqb a.payer.0 b.payer.0 in
    let q : Bool = eqb a.payerseq.0 b.payerseq.0 in
    let r : Bool = eqb a.payee.0 b.payee.0 in
    let s : Bool = eqb a.payeeseq.0 b.payeeseq.0 in
    let t : Bool = eqb a.amount.0 b.amount.0 in
    record {
      payer = eqb-true _ _ (and_l p q (and_l (p && q) r (and_l (p && q && r) s (and_l (p && q && r && s) t h))));
      payerseq = eqb-true _ _ (and_r p q (and_l (p && q) r (and_l (p && q && r) s (and_l (p && q && r && s) t h))));
      payee = eqb-true _ _ (and_r (p && q) r (and_l (p && q && r) s (and_l (p && q && r && s) t h)));
      payeeseq = eqb-true _ _ (and_r (p && q && r) s (and_l (p && q && r && s) t h));
      amount = eqb-true _ _ (and_r (p && q && r && s) t h);
    }

pub same_is : (a b : Details) → Same a b → same_details a b ≡ true
unfolding same_details
same_is a b s = simp (eq-eqb _ _ s.payer, eq-eqb _ _ s.payerseq, eq-eqb _ _ s.payee, eq-eqb _ _ s.payeeseq, eq-eqb _ _ s.amount)

pub same_sym : (a b : Details) → same_details a b ≡ false → same_details b a ≡ false
same_sym a b h =
    refute (same_details b a) (λ (t : same_details b a ≡ true).
    let s : Same b a = is_same b a t in
    let u : same_details a b ≡ true = same_is a b (record { payer = sym s.payer; payerseq = sym s.payerseq; payee = sym s.payee; payeeseq = sym s.payeeseq; amount = sym s.amount }) in
    let z : ◌≡◌ {A = ℕ} 0 1 = cc in omega arith)

pub zero_same : same_details zero_details zero_details ≡ true
unfolding same_details
zero_same = refl

pub as_payer_lem : (own : Name) (next : Seq) (e : Details) → as_payer own next e ≡ true → (e.payer.0 ≡ own.0) × ((1 ≤ e.payerseq.0) × (e.payerseq.0 < next.0))
unfolding as_payer
as_payer_lem own next e h =
    let a : (eqb e.payer.0 own.0 && leb 1 e.payerseq.0) ≡ true = and_l _ (ltb e.payerseq.0 next.0) h in (
      eqb-true _ _ (and_l (eqb e.payer.0 own.0) (leb 1 e.payerseq.0) a),
      (
        leb-true _ _ (and_r (eqb e.payer.0 own.0) (leb 1 e.payerseq.0) a),
        ltb-true _ _ (and_r (eqb e.payer.0 own.0 && leb 1 e.payerseq.0) (ltb e.payerseq.0 next.0) h),
      ),
    )

pub as_payee_lem : (own : Name) (next : Seq) (e : Details) → as_payee own next e ≡ true → (e.payee.0 ≡ own.0) × ((1 ≤ e.payeeseq.0) × (e.payeeseq.0 < next.0))
unfolding as_payee
as_payee_lem own next e h =
    let a : (eqb e.payee.0 own.0 && leb 1 e.payeeseq.0) ≡ true = and_l _ (ltb e.payeeseq.0 next.0) h in (
      eqb-true _ _ (and_l (eqb e.payee.0 own.0) (leb 1 e.payeeseq.0) a),
      (
        leb-true _ _ (and_r (eqb e.payee.0 own.0) (leb 1 e.payeeseq.0) a),
        ltb-true _ _ (and_r (eqb e.payee.0 own.0 && leb 1 e.payeeseq.0) (ltb e.payeeseq.0 next.0) h),
      ),
    )

pub payer_is : (own : Name) (next : Seq) (e : Details) → e.payer.0 ≡ own.0 → 1 ≤ e.payerseq.0 → e.payerseq.0 < next.0 → as_payer own next e ≡ true
unfolding as_payer
payer_is own next e a b c = simp (eq-eqb _ _ a, le-leb _ _ b, lt-ltb _ _ c)

pub payee_is : (own : Name) (next : Seq) (e : Details) → e.payee.0 ≡ own.0 → 1 ≤ e.payeeseq.0 → e.payeeseq.0 < next.0 → as_payee own next e ≡ true
unfolding as_payee
payee_is own next e a b c = simp (eq-eqb _ _ a, le-leb _ _ b, lt-ltb _ _ c)

pub entry_role : (own : Name) (next : Seq) (e : Details) → entry_ok own next e ≡ true → (as_payer own next e ≡ true) ⊎ (as_payee own next e ≡ true)
unfolding entry_ok
entry_role own next e h = either (as_payer own next e) (as_payee own next e) (and_r (named e) (as_payer own next e || as_payee own next e) h)

pub entry_named : (own : Name) (next : Seq) (e : Details) → entry_ok own next e ≡ true → named e ≡ true
unfolding entry_ok
entry_named own next e h = and_l (named e) (as_payer own next e || as_payee own next e) h

-- an entry stays one when the purse has used more numbers
pub entry_later : (own : Name) (next later : Seq) (e : Details) → next.0 ≤ later.0 → entry_ok own next e ≡ true → entry_ok own later e ≡ true
unfolding entry_ok
entry_later own next later e l h =
    and_i (entry_named own next e h)
    (⊎_elim
    (λ (a : as_payer own next e ≡ true).
    let w : (e.payer.0 ≡ own.0) × ((1 ≤ e.payerseq.0) × (e.payerseq.0 < next.0)) = as_payer_lem own next e a in
    or_inl (as_payer own later e) (as_payee own later e) (payer_is own later e w.0 w.1.0 (omega arith)))
    (λ (a : as_payee own next e ≡ true).
    let w : (e.payee.0 ≡ own.0) × ((1 ≤ e.payeeseq.0) × (e.payeeseq.0 < next.0)) = as_payee_lem own next e a in
    or_inr (as_payer own later e) (as_payee own later e) (payee_is own later e w.0 w.1.0 (omega arith)))
    (entry_role own next e h))

-- details with the purse's next number are in no entry
pub fresh_payer : (own : Name) (next : Seq) (d e : Details) → d.payerseq.0 ≡ next.0 → (d.payee.0 ≡ own.0 → ⊥) → entry_ok own next e ≡ true → same_details d e ≡ false
fresh_payer own next d e n o h =
    refute (same_details d e) (λ (t : same_details d e ≡ true).
    let s : Same d e = is_same d e t in
    ⊎_elim
    (λ (a : as_payer own next e ≡ true). omega (arith, (as_payer_lem own next e a).1.1))
    (λ (a : as_payee own next e ≡ true). o (s.payee ∙ (as_payee_lem own next e a).0))
    (entry_role own next e h))

pub fresh_payee : (own : Name) (next : Seq) (d e : Details) → d.payeeseq.0 ≡ next.0 → (d.payer.0 ≡ own.0 → ⊥) → entry_ok own next e ≡ true → same_details d e ≡ false
fresh_payee own next d e n o h =
    refute (same_details d e) (λ (t : same_details d e ≡ true).
    let s : Same d e = is_same d e t in
    ⊎_elim
    (λ (a : as_payer own next e ≡ true). o (s.payer ∙ (as_payer_lem own next e a).0))
    (λ (a : as_payee own next e ≡ true). omega (arith, (as_payee_lem own next e a).1.1))
    (entry_role own next e h))

pub fresh_zero : (own : Name) (next : Seq) (e : Details) → entry_ok own next e ≡ true → same_details zero_details e ≡ false
fresh_zero own next e h =
    refute (same_details zero_details e) (λ (t : same_details zero_details e ≡ true).
    let s : Same zero_details e = is_same zero_details e t in
    let n : Named e = is_named e (entry_named own next e h) in
    omega (arith, s.amount, n.least))

-- none of the first n entries, by each place
pub absent_at : (l : List Details) (d : Details) (n i : ℕ) → absent l d n ≡ true → i < n → same_details (get_or l i zero_details) d ≡ false
unfolding absent
absent_at l d n i h g = not-true _ (every_at (λ (j : ℕ). not (same_details (get_or l j zero_details) d)) n i h g)

pub absent_is : (l : List Details) (d : Details) (n : ℕ) → ((i : ℕ) → i < n → same_details (get_or l i zero_details) d ≡ false) → absent l d n ≡ true
unfolding absent
absent_is l d n h = every-all (λ (j : ℕ). not (same_details (get_or l j zero_details) d)) n (λ (i : ℕ) (g : i < n). not_i _ (h i g))
