-- Runs of bytes put one after the other are one run, and lines put one after the other are all the lines.
-- Assumes nothing.
use mathlib.Core.Path.{◌≡◌, refl, sym, ap, ◌∙◌}
use mathlib.Core.Bool.{Bool, true, false}
use Prim.Native.Nat.{ℕ, suc, ◌+◌, ◌<◌, ◌≤◌}
use native.Mathlib.Nat.{add-zero, add_assoc}
use native.Mathlib.Numerals.{add-one}
use native.Mathlib.Omega.{arith}
use mathlib.Core.List.{List, [], ◌∷◌, ◌++◌, append_assoc, append-nil}
use lib.ListN.{length, take, get_or, length-append}
use lib.Seq.{take-suc, length-take-le, drop-drop}
use Rattle.bigendian.specs.Bytes.{put}
use borrow.Rule.Slice.PartMut.{put_mid}
use Rattle.bigendian.proofs.Puts.{put_eq, then_put}
use Rattle.lines.specs.declared.text.Text.{Text}
use Rattle.lines.specs.Added.{Added}
use Rattle.lines.specs.Text.{Filled, numbered}

-- nothing added
pub nothing : (t : Text) → Added t [] t
unfolding put
nothing t = record { same_buffer = refl; room = refl; behind = sym (add-zero t.length); holds = refl }

-- what copying bytes over a part leaves
pub copied : (l vs : List ℕ) (i k : ℕ) → k ≡ length vs → i + length vs ≤ length l → put_mid i k l vs ≡ put l i vs
copied l vs i k e h = rw (put_eq l i vs h, e, drop-drop, append_assoc)

-- one run after another
pub then : {t t₁ t₂ : Text} {vs ws : List ℕ} → Added t vs t₁ → Added t₁ ws t₂ → Added t (vs ++ ws) t₂
then {t} {t₁} {t₂} {vs} {ws} p q =
    record {
      same_buffer = q.same_buffer ∙ p.same_buffer;
      room = q.room ∙ p.room;
      behind = q.behind ∙ rw (p.behind, length-append vs ws) (add_assoc t.length (length vs) (length ws));
      holds = then_put t.buffer.now t.length vs ws p.holds p.behind q.holds;
    }

-- the same bytes, otherwise written
pub same_bytes : {t t' : Text} {vs ws : List ℕ} → vs ≡ ws → Added t vs t' → Added t ws t'
same_bytes e p = rw e at p

module _ {A : Type 0} (line : ℕ → A → List ℕ) where
  pub numbered-append : (k : ℕ) (xs ys : List A) → numbered line k (xs ++ ys) ≡ numbered line k xs ++ numbered line (k + length xs) ys
  unfolding numbered
  numbered-append k [] ys = rw add-zero
  numbered-append k (x ∷ xs) ys =
      let e : k + suc (length xs) ≡ suc k + length xs = omega arith in
      rw (e, append_assoc (line k x) (numbered line (suc k) xs) (numbered line (suc k + length xs) ys))
      (ap (λ (t : List ℕ). line k x ++ t) (numbered-append (suc k) xs ys))

  -- one line more
  pub line_more : {t t₁ t₂ : Text} {name : ℕ} (k : ℕ) (xs : List A) (i : ℕ) (d : A) → i < length xs → name ≡ k + i
      → Added t (numbered line k (take i xs)) t₁
      → Added t₁ (line name (get_or xs i d)) t₂
      → Added t (numbered line k (take (i + 1) xs)) t₂
  unfolding numbered
  line_more {t} {t₁} {t₂} {name} k xs i d h s p q =
      let e = length-take-le i xs (omega arith) in
      let m : numbered line k (take (i + 1) xs) ≡ numbered line k (take i xs) ++ line name (get_or xs i d) =
      rw (s, add-one i, take-suc xs i d h, numbered-append k (take i xs) (get_or xs i d ∷ []), e, append-nil (line (k + i) (get_or xs i d))) in
      same_bytes (sym m) (then p q)

-- a buffer filled from its start
pub filled : {b : Bool} {t t' : Text} {vs l l' : List ℕ} → b ≡ true → (t.length ≡ 0) × (t.buffer.now ≡ l) → Added t vs t' → l' ≡ t'.buffer.now → Filled b vs l t'.length l'
filled {b} {t} {t'} {vs} e n p q =
    let start : t'.length ≡ length vs = omega arith in
    rw (e, ← n.1, q) (start, rw n.0 at p.holds)
