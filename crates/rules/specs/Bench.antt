-- The bench as three lists: its purses, the messages that stand, the archive. A name is a place in `purses`, from 0, and a
-- message's number its place in `messages`. Laid.antt says how the lists lie in the lent table and the desk.
use Rattle.std.specs.Prelude.{ℕ, Bool, ◌&&◌, cond, List, [], ◌∷◌, ◌++◌, take, get_or, eqb}
use Rattle.purse.specs.declared.Name.{Name}
use Rattle.purse.specs.declared.Details.{Details}
use Rattle.purse.specs.declared.Message.{Message}
use Rattle.purse.specs.declared.Purse.{Purse}
use Rattle.purse.specs.Lists.{among}
use Rattle.purse.specs.Details.{zero_message, same_details}
use Rattle.purse.specs.Purse.{idle, zero_purse, opened_purse}
use Rattle.desk.specs.declared.Entry.{Entry}

pub record Bench : Type 0 where
  pub purses : List Purse
  pub messages : List Message
  pub archive : List Entry

abbrev pub called : ℕ → Name
called n = record { 0 = n }

abbrev pub opened_at : ℕ → Purse
opened_at b = opened_purse (record { 0 = b })

abbrev pub purse_at : Bench → ℕ → Purse
purse_at b n = get_or b.purses n zero_purse

abbrev pub message_at : Bench → ℕ → Message
message_at b i = get_or b.messages i zero_message

abbrev pub balance_at : Bench → ℕ → ℕ
balance_at b p = (purse_at b p).balance.0

-- a purse's running details
abbrev pub running : Purse → List Details
running p = cond (eqb p.status idle) [] (p.details ∷ [])

-- its log
abbrev pub kept : Purse → List Details
kept p = take p.logged p.log

-- its archive entries: those that it logged
abbrev pub archived_by : ℕ → List Entry → List Details
archived_by n [] = []
archived_by n (e ∷ es) = cond (eqb e.by.0 n) (e.details ∷ archived_by n es) (archived_by n es)

-- what a purse has logged, "in the purse or in the archive"
abbrev pub logged_by : Bench → ℕ → List Details
logged_by b n = kept (purse_at b n) ++ archived_by n b.archive

-- purse n has logged d
abbrev pub has_logged : Bench → ℕ → Details → Bool
has_logged b n d = among same_details d (logged_by b n)

-- a purse is in that status with those details
abbrev pub is_at : ℕ → Purse → Details → Bool
is_at s p d = eqb p.status s && same_details d p.details
