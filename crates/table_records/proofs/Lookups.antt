-- The record that a name looks up: a place of the table, whatever the name.
-- Assumes nothing.
use Prim.Native.Nat.{ℕ, ◌<◌}
use mathlib.Core.Path.{◌≡◌, ◌∙◌, ap}
use mathlib.Core.Bool.{Bool}
use mathlib.Core.List.{List}
use lib.ListN.{length, get_or}
use native.Mathlib.Omega.{arith}
use Rattle.purse.specs.declared.Name.{Name}
use Rattle.purse.specs.declared.Message.{Message}
use Rattle.purse.specs.declared.Purse.{Purse}
use Rattle.purse.specs.Purse.{zero_purse}
use Rattle.purse.proofs.Lists.{at_any}
use Rattle.desk.specs.declared.Entry.{Entry}
use Rattle.table_records.specs.Records.{place_of, record_of, message_beside, message_in, entry_beside, entry_in}

pub place_below : (n : Name) → place_of n < 32
place_below n = omega arith

-- a place that the code looked up
pub looked_up : (l : List Purse) (n : Name) (i : ℕ) (y : Purse) → length l ≡ 32 → i ≡ place_of n → get_or l i y ≡ record_of l n
looked_up l n i y long e =
    at_any l i y zero_purse (omega (arith, place_below n)) ∙ ap (λ (k : ℕ). get_or l k zero_purse) e

pub message_at_lem : (n : ℕ) (l : List Purse) (m : Message) (i j : ℕ) (x y : Purse) {r : Bool} → length l ≡ 32 → i ≡ place_of m.details.payee → j ≡ place_of m.details.payer → r ≡ message_beside n (get_or l i x) (get_or l j y) m → r ≡ message_in n l m
message_at_lem n l m i j x y long e k h =
    h ∙ ap (λ (p : Purse). message_beside n p (get_or l j y) m) (looked_up l m.details.payee i x long e)
    ∙ ap (λ (p : Purse). message_beside n (record_of l m.details.payee) p m) (looked_up l m.details.payer j y long k)

pub entry_at : (n : ℕ) (l : List Purse) (e : Entry) (i : ℕ) (x : Purse) {r : Bool} → length l ≡ 32 → i ≡ place_of e.by → r ≡ entry_beside n (get_or l i x) e → r ≡ entry_in n l e
entry_at n l e i x long k h = h ∙ ap (λ (p : Purse). entry_beside n p e) (looked_up l e.by i x long k)
