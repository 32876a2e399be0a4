-- What the code asks of messages and archive entries alike: the derived equality is the rules' one, and equal ones have the same key.
use mathlib.Core.Path.{◌≡◌, sym, ap, ◌∙◌}
use mathlib.Core.Bool.{Bool, true, ◌&&◌, and_assoc}
use mathlib.Core.List.{List}
use Prim.Native.Nat.{ℕ}
use lib.ListN.{length}
use lib.Dec.{leb, eqb}
use Rattle.purse.specs.Lists.{among, distinct}
use Rattle.purse.specs.declared.Details.{Details}
use Rattle.purse.specs.declared.Message.{Message}
use Rattle.purse.specs.Details.{same_details, same_message}
use Rattle.desk.specs.declared.Entry.{Entry}
use Rattle.desk.specs.Desk.{same_entry}
use Rattle.rules.proofs.Facts.{message_equal, entry_equal}
use Rattle.table_records.specs.Records.{message_key, entry_key}

-- x is among the places l, whose keys are ks: its key is among them, and it is itself
abbrev pub found : {A : Type 0} → (A → ℕ) → (A → A → Bool) → A → List A → List ℕ → Bool
found key same x l ks = among eqb (key x) ks && among same x l

-- 256 places at most, no two of them the same
abbrev pub apart : {A : Type 0} → (A → A → Bool) → List A → Bool
apart same l = leb (length l) 256 && distinct same l

-- the derived equality is the rules', field by field
abbrev pub eq_details : Details → Details → Bool
eq_details d e =
    eqb d.payer.0 e.payer.0
    && (eqb d.payerseq.0 e.payerseq.0
    && (eqb d.payee.0 e.payee.0 && (eqb d.payeeseq.0 e.payeeseq.0 && eqb d.amount.0 e.amount.0)))

pub message_eq : (m k : Message) → (eqb m.kind k.kind && eq_details m.details k.details) ≡ same_message m k
unfolding same_message same_details
message_eq m k = simp and_assoc

pub entry_eq : (e f : Entry) → (eqb e.by.0 f.by.0 && eq_details e.details f.details) ≡ same_entry e f
unfolding same_entry same_details
entry_eq e f = simp and_assoc

-- what is the same has the same key
pub message_alike : (m k : Message) → (eqb m.kind k.kind && eq_details m.details k.details) ≡ true → message_key m ≡ message_key k
message_alike m k e = ap message_key (message_equal m k (sym (message_eq m k) ∙ e))

pub entry_alike : (e f : Entry) → (eqb e.by.0 f.by.0 && eq_details e.details f.details) ≡ true → entry_key e ≡ entry_key f
entry_alike e f k = ap entry_key (entry_equal e f (sym (entry_eq e f) ∙ k))
