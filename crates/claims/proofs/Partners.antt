-- An entry's partner, as the code looks for it in the archive, by its key first: that is whether it is among the entries collected.
-- Assumes nothing.
use mathlib.Core.Path.{◌≡◌, ap, ◌∙◌}
use mathlib.Core.Bool.{Bool, ◌&&◌}
use mathlib.Core.List.{List, map}
use Prim.Native.Nat.{ℕ}
use lib.ListN.{take}
use lib.Dec.{eqb}
use Rattle.purse.specs.Lists.{among}
use Rattle.purse.proofs.Lists.{take-map}
use Rattle.desk.specs.declared.Entry.{Entry}
use Rattle.desk.specs.declared.Archive.{Archive}
use Rattle.desk.specs.Desk.{same_entry}
use Rattle.table_records.specs.Placed.{eq_details, entry_eq, entry_alike}
use Rattle.table_records.specs.Records.{entry_key, collected}
use Rattle.table_records.proofs.Asked.{keyed}

-- the derived equality
abbrev pub equal : Entry → Entry → Bool
equal e f = eqb e.by.0 f.by.0 && eq_details e.details f.details

pub archived : (a : Archive) (keys : List ℕ) (e : Entry) {r : Bool} → keys ≡ map entry_key a.places → r ≡ (among eqb (entry_key e) (take a.count keys) && among equal e (collected a)) → r ≡ among same_entry e (collected a)
archived a keys e is k =
    k
    ∙ ap (λ (ks : List ℕ). among eqb (entry_key e) ks && among equal e (collected a)) (ap (take a.count) is ∙ take-map entry_key a.count a.places)
    ∙ keyed equal entry_key entry_alike e (collected a)
    ∙ ap (λ (g : Entry → Entry → Bool). among g e (collected a)) (λ i x y. entry_eq x y i)
