-- The rules of a purse's log, place by place, and what keeps them.
-- Assumes nothing.
use Prim.Native.Nat.{ℕ, ◌≤◌, ◌<◌}
use mathlib.Core.Path.{◌≡◌}
use mathlib.Core.Bool.{true, false, ◌&&◌, not}
use mathlib.Core.Logic.{◌⊎◌, ⊎_elim}
use mathlib.Core.List.{List, [], ◌∷◌}
use lib.ListN.{length, get_or, drop_of_length-le}
use lib.Seq.{drop-cons}
use lib.Dec.{ltb, leb, eqb}
use native.Mathlib.Omega.{arith}
use borrow.Author.Tests.{leb-true, ltb-true, ltb-false, eqb-true, eq-eqb, le-leb, lt-ltb, not-true}
use Rattle.purse.specs.declared.Name.{Name}
use Rattle.purse.specs.declared.Seq.{Seq}
use Rattle.purse.specs.declared.Amount.{Amount}
use Rattle.purse.specs.declared.Details.{Details}
use Rattle.purse.specs.declared.Purse.{Purse}
use Rattle.purse.specs.Lists.{every}
use Rattle.purse.specs.Details.{zero_details, same_details, entry_ok, absent}
use Rattle.purse.specs.Purse.{used_ok, unused_ok, place_ok, log_ok}
use Rattle.purse.specs.Step.{moved_down}
use Rattle.purse.proofs.Bools.{and_l, and_r, either, and_i, or_inl, or_inr, not_i, which}
use Rattle.purse.proofs.Lists.{every_at, every-all}
use Rattle.purse.proofs.Payments.{entry_later}

-- the four parts of a used place
pub record Used (own : Name) (p : Purse) (i : ℕ) : Type 0 where
  pub below : i < p.logged
  pub entry : entry_ok own p.next (get_or p.log i zero_details) ≡ true
  pub other : same_details p.details (get_or p.log i zero_details) ≡ false
  pub alone : absent p.log (get_or p.log i zero_details) i ≡ true

pub is_used : (own : Name) (p : Purse) (i : ℕ) → used_ok own p i ≡ true → Used own p i
is_used own p i h =
    let e : Details = get_or p.log i zero_details in
    let a : (ltb i p.logged && entry_ok own p.next e && not (same_details p.details e)) ≡ true = and_l _ (absent p.log e i) h in
    let b : (ltb i p.logged && entry_ok own p.next e) ≡ true = and_l _ (not (same_details p.details e)) a in
    record {
      below = ltb-true _ _ (and_l (ltb i p.logged) (entry_ok own p.next e) b);
      entry = and_r (ltb i p.logged) (entry_ok own p.next e) b;
      other = not-true _ (and_r (ltb i p.logged && entry_ok own p.next e) (not (same_details p.details e)) a);
      alone = and_r (ltb i p.logged && entry_ok own p.next e && not (same_details p.details e)) (absent p.log e i) h;
    }

pub used_is : (own : Name) (p : Purse) (i : ℕ) → Used own p i → used_ok own p i ≡ true
used_is own p i u = and_i (and_i (and_i (lt-ltb _ _ u.below) u.entry) (not_i _ u.other)) u.alone

-- the purse with another balance, next number, status and details
abbrev pub with_these : Purse → Amount → Seq → ℕ → Details → Purse
with_these p b n s d = record { balance = b; next = n; status = s; details = d; log = p.log; logged = p.logged }

pub log-kept : (own : Name) (p : Purse) (b : Amount) (n : Seq) (s : ℕ) (d : Details) → p.next.0 ≤ n.0 → ((e : Details) → entry_ok own p.next e ≡ true → same_details d e ≡ false) → log_ok own p ≡ true → log_ok own (with_these p b n s d) ≡ true
unfolding log_ok place_ok
log-kept own p b n s d l f h =
    and_i (and_l (eqb (length p.log) 8) (every 8 (place_ok own p)) h)
    (every-all (place_ok own (with_these p b n s d)) 8 (λ (i : ℕ) (g : i < 8).
    ⊎_elim
    (λ (a : used_ok own p i ≡ true).
    let u : Used own p i = is_used own p i a in
    or_inl (used_ok own (with_these p b n s d) i) (unused_ok p i)
    (used_is own (with_these p b n s d) i
    (record { below = u.below; entry = entry_later own p.next n (get_or p.log i zero_details) l u.entry; other = f (get_or p.log i zero_details) u.entry; alone = u.alone })))
    (λ (a : unused_ok p i ≡ true). or_inr (used_ok own (with_these p b n s d) i) (unused_ok p i) a)
    (either (used_ok own p i) (unused_ok p i) (every_at (place_ok own p) 8 i (and_r (eqb (length p.log) 8) (every 8 (place_ok own p)) h) g))))

-- the log's rules read only the next number, the details, the log and its count
pub log_same : (own : Name) (p q : Purse) → q.next ≡ p.next → q.details ≡ p.details → q.log ≡ p.log → q.logged ≡ p.logged → log_ok own p ≡ true → log_ok own q ≡ true
unfolding log_ok place_ok
log_same own p q a b c d h = simp (a, b, c, d) h

-- what the log's rules say of each place
module _ (own : Name) (p : Purse) (h : log_ok own p ≡ true) where
  pub log_long : length p.log ≡ 8
  unfolding log_ok
  log_long = eqb-true _ _ (and_l (eqb (length p.log) 8) (every 8 (place_ok own p)) h)

  pub log_place_lem : (i : ℕ) → i < 8 → (used_ok own p i ≡ true) ⊎ (unused_ok p i ≡ true)
  unfolding log_ok place_ok
  log_place_lem i g =
      either (used_ok own p i) (unused_ok p i) (every_at (place_ok own p) 8 i (and_r (eqb (length p.log) 8) (every 8 (place_ok own p)) h) g)

  pub used_at_lem : (i : ℕ) → i < 8 → i < p.logged → Used own p i
  used_at_lem i g l =
      ⊎_elim
      (λ (a : used_ok own p i ≡ true). is_used own p i a)
      (λ (a : unused_ok p i ≡ true).
      let b : p.logged ≤ i = leb-true _ _ (and_l (leb p.logged i) (same_details (get_or p.log i zero_details) zero_details) a) in
      absurd (omega arith))
      (log_place_lem i g)

  pub unused_at : (i : ℕ) → i < 8 → p.logged ≤ i → same_details (get_or p.log i zero_details) zero_details ≡ true
  unused_at i g l =
      ⊎_elim
      (λ (a : used_ok own p i ≡ true).
      let u : Used own p i = is_used own p i a in
      absurd (omega (arith, u.below)))
      (λ (a : unused_ok p i ≡ true). and_r (leb p.logged i) (same_details (get_or p.log i zero_details) zero_details) a)
      (log_place_lem i g)

-- a log's rules from its places
pub log_is : (own : Name) (q : Purse) → length q.log ≡ 8 → ((i : ℕ) → i < 8 → i < q.logged → Used own q i) → ((i : ℕ) → i < 8 → q.logged ≤ i → same_details (get_or q.log i zero_details) zero_details ≡ true) → log_ok own q ≡ true
unfolding log_ok place_ok
log_is own q l u n =
    and_i (eq-eqb _ _ l)
    (every-all (place_ok own q) 8 (λ (i : ℕ) (g : i < 8).
    ⊎_elim
    (λ (w : ltb i q.logged ≡ true). or_inl (used_ok own q i) (unused_ok q i) (used_is own q i (u i g (ltb-true _ _ w))))
    (λ (w : ltb i q.logged ≡ false).
    or_inr (used_ok own q i) (unused_ok q i)
    (and_i (le-leb _ _ (ltb-false i q.logged w)) (n i g (ltb-false i q.logged w))))
    (which (ltb i q.logged))))

-- a list of eight, moved down by one place
pub moved : (l : List Details) (d : Details) → length l ≡ 8 → get_or l 1 d ∷ get_or l 2 d ∷ get_or l 3 d ∷ get_or l 4 d ∷ get_or l 5 d ∷ get_or l 6 d ∷ get_or l 7 d ∷ zero_details ∷ [] ≡ moved_down l
moved l d e = rw (drop-cons l 1 d (omega arith), drop-cons l 2 d (omega arith), drop-cons l 3 d (omega arith), drop-cons l 4 d (omega arith), drop-cons l 5 d (omega arith), drop-cons l 6 d (omega arith), drop-cons l 7 d (omega arith), drop_of_length-le l {i = 8} (omega arith))
