-- The ether and the archive in their 256 places: the opened ones, and their next states.
use Rattle.std.specs.Prelude.{ℕ, suc, ◌+◌, ◌-◌, Bool, true, false, ◌&&◌, cond, List, [], ◌∷◌, ◌++◌, take, drop, set, replicate, ltb, leb, eqb}
use Rattle.purse.specs.declared.Message.{Message}
use Rattle.purse.specs.Details.{zero_details, zero_message, same_details}
use Rattle.desk.specs.declared.Entry.{Entry}
use Rattle.desk.specs.declared.Ether.{Ether}
use Rattle.desk.specs.declared.Archive.{Archive}
use Rattle.desk.specs.declared.Changed.{Changed}
use Rattle.desk.specs.declared.Desk.{Desk}

-- "Messages stand in 256 places and archive entries in 256, unused places all zero"
abbrev pub places : ℕ
places = 256

abbrev pub zero_entry : Entry
zero_entry = record { by = record { 0 = 0 }; details = zero_details }

-- equal in logging purse and details
unfoldable pub same_entry : Entry → Entry → Bool
same_entry e f = eqb e.by.0 f.by.0 && same_details e.details f.details

abbrev pub empty_ether : Ether
empty_ether = record { places = replicate places zero_message; count = 0 }

abbrev pub empty_archive : Archive
empty_archive = record { places = replicate places zero_entry; count = 0 }

-- "no messages", "no entries"
abbrev pub opened_desk : ℕ → Desk
opened_desk n = record { purses = n; ether = empty_ether; archive = empty_archive }

-- "Sending appends at the end of the messages"; "If 256 messages stand, the sent one is lost"
unfoldable pub appended : Ether → Message → Changed
appended e m =
    cond (ltb e.count places)
    (record { ether = record { places = set e.places e.count m; count = e.count + 1 }; lost = false })
    (record { ether = e; lost = true })

-- the member at a place out, the later ones one place down, z at the place that falls free
abbrev pub pulled : {A : Type 0} → ℕ → A → List A → List A
pulled i z l = take i l ++ (drop (suc i) l ++ (z ∷ []))

-- "Lose: that message goes, later ones move down one place"; where none stands at that place nothing goes
unfoldable pub taken_out : Ether → ℕ → Changed
taken_out e i =
    cond (ltb i e.count && leb e.count places)
    (record { ether = record { places = pulled i zero_message e.places; count = e.count - 1 }; lost = true })
    (record { ether = e; lost = false })

-- an entry "is appended to the archive", while there is room
unfoldable pub stored : Archive → Entry → Archive
stored a e =
    cond (ltb a.count places) (record { places = set a.places a.count e; count = a.count + 1 }) a
