-- The claims figure as a pass over the entries of all logs and one over the archive make it: what each entry adds. That it is the sum over
-- the purses of their matched pairs is `claims_once`.
use Rattle.std.specs.Prelude.{ℕ, Bool, ◌&&◌, ◌||◌, cond, List, map, length, get_or, leb, eqb}
use Rattle.purse.specs.declared.Details.{Details}
use Rattle.purse.specs.declared.Purse.{Purse}
use Rattle.purse.specs.Lists.{among, append_to}
use Rattle.purse.specs.Details.{same_details}
use Rattle.purse.specs.Purse.{zero_purse}
use Rattle.desk.specs.declared.Entry.{Entry}
use Rattle.desk.specs.declared.Archive.{Archive}
use Rattle.desk.specs.Desk.{same_entry}
use Rattle.rules.specs.Bench.{called, kept}
use Rattle.table_records.specs.Records.{collected, record_of}

-- details as an entry of purse n
abbrev pub entry_by : ℕ → Details → Entry
entry_by n d = record { by = called n; details = d }

-- the entries of the logs of the first n purses, purse after purse
abbrev pub log_entries : ℕ → List Purse → List Entry
log_entries n l = append_to n (λ (p : ℕ). map (entry_by p) (kept (get_or l p zero_purse)))

-- the payee of details, p its record, has logged them: "in the purse or in the archive"
unfoldable pub payee_logged : Purse → Archive → Details → Bool
payee_logged p a d =
    among same_details d (kept p) || among same_entry (entry_by d.payee.0 d) (collected a)

-- an entry adds its amount where the purse that logged it is its payer, and its payee has logged it too
unfoldable pub claim_beside : Purse → Archive → Entry → ℕ
claim_beside p a e = cond (eqb e.by.0 e.details.payer.0 && payee_logged p a e.details) e.details.amount.0 0

abbrev pub entry_claim : List Purse → Archive → Entry → ℕ
entry_claim l a e = claim_beside (record_of l e.details.payee) a e

-- the log has its eight places, and no more are used
abbrev pub log_fits : Purse → Bool
log_fits p = eqb (length p.log) 8 && leb p.logged 8
