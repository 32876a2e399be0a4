-- What an abort makes of a head by its status, what a delivered message does by its kind, and a step by its number: the code goes by
-- `match`. Each follows by computing the tests of that number, the others being false. Assumes nothing.
use Prim.Native.Nat.{ℕ}
use mathlib.Core.Path.{◌≡◌, ◌∙◌, sym}
use native.Mathlib.Omega.{arith}
use borrow.Author.Tests.{eq-eqb, ne_eqb}
use Rattle.purse.specs.Details.{zero_message}
use Rattle.refusals.specs.declared.Head.{Head}
use Rattle.turns.specs.declared.LogChange.TheVariants.{Nothing}
use Rattle.turns.specs.declared.Turned.{Turned}
use Rattle.turns.specs.Turns.{refused_at, done_at, unless_at, idle_at, paid_at, received_at, settled_at, delivered_at, stopped_at, aborted_at}

module _ (h : Head) where
  -- what an abort leaves, by the status
  pub quit_idle : h.status ≡ 0 → aborted_at h ≡ done_at h Nothing zero_message
  quit_idle e = simp (eq-eqb _ 0 e)

  pub quit_epr : h.status ≡ 1 → aborted_at h ≡ done_at (idle_at h.balance h) Nothing zero_message
  quit_epr e = simp (ne_eqb h.status 0 (λ (z : h.status ≡ 0). omega arith), eq-eqb _ 1 e)

  pub quit_busy : (h.status ≡ 0 → ⊥) → (h.status ≡ 1 → ⊥) → aborted_at h ≡ stopped_at h
  quit_busy a b = simp (ne_eqb _ 0 a, ne_eqb _ 1 b)

  -- what a delivered message does, by its kind
  pub deliver_request : (k : ℕ) → k ≡ 1 → delivered_at h k ≡ paid_at h
  deliver_request k e = simp (eq-eqb k 1 e)

  pub deliver_value : (k : ℕ) → k ≡ 2 → delivered_at h k ≡ received_at h
  deliver_value k e = simp (ne_eqb k 1 (λ (z : k ≡ 1). omega arith), eq-eqb k 2 e)

  pub deliver_other : (k : ℕ) → (k ≡ 1 → ⊥) → (k ≡ 2 → ⊥) → delivered_at h k ≡ settled_at h
  deliver_other k a b = simp (ne_eqb k 1 a, ne_eqb k 2 b)

  -- a step by its number: 0 does it, any other refuses
  module _ (n : ℕ) (t : Turned) {k : ℕ} (e : k ≡ n) where
    pub done_at_lem : k ≡ 0 → unless_at n h t ≡ t
    done_at_lem z = simp (eq-eqb n 0 (sym e ∙ z))

    pub refused_at_lem : (k ≡ 0 → ⊥) → unless_at n h t ≡ refused_at k h
    refused_at_lem z = simp (ne_eqb n 0 (λ (i : n ≡ 0). z (e ∙ i)), e)
