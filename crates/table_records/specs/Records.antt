-- The rules of a bench's table and desk as the code asks them: each record alone, each message and each archive entry once, beside the one
-- or two records that it names. A table and desk obey document 01's rules (`held_ok`) just where these do: `held_by_messages` of crate table.
use Rattle.std.specs.Prelude.{ℕ, ◌+◌, ◌*◌, ◌%◌, Bool, ◌&&◌, ◌||◌, not, cond, List, ◌++◌, length, take, get_or, ltb, leb, eqb}
use Rattle.purse.specs.declared.Name.{Name}
use Rattle.purse.specs.declared.Details.{Details}
use Rattle.purse.specs.declared.Message.{Message}
use Rattle.purse.specs.declared.Purse.{Purse}
use Rattle.purse.specs.Lists.{every, all, among, distinct}
use Rattle.purse.specs.Details.{request, value, acknowledge, same_details, same_message, named, entry_ok}
use Rattle.purse.specs.Purse.{epr, epv, zero_purse, well_formed}
use Rattle.desk.specs.declared.Entry.{Entry}
use Rattle.desk.specs.declared.Ether.{Ether}
use Rattle.desk.specs.declared.Archive.{Archive}
use Rattle.desk.specs.declared.Held.{Held}
use Rattle.desk.specs.Desk.{same_entry}
use Rattle.rules.specs.Bench.{called, running, kept, is_at}
use Rattle.rules.specs.Laid.{is_zero_purse, is_zero_message, is_zero_entry, places_ok}

-- the messages that stand, the entries collected
abbrev pub standing : Ether → List Message
standing e = take e.count e.places

abbrev pub collected : Archive → List Entry
collected a = take a.count a.places

-- b, where a holds
abbrev pub when : Bool → Bool → Bool
when a b = not a || b

-- both names are below the purse count
unfoldable pub within : ℕ → Details → Bool
within n d = ltb d.payer.0 n && ltb d.payee.0 n

-- a message alone: "each message kind 1 to 3", "two different purses of the table and a legal amount"
unfoldable pub message_alone : ℕ → Message → Bool
message_alone n m =
    leb request m.kind && leb m.kind acknowledge && named m.details && within n m.details

-- an archive entry alone: the logging purse and the purses named are purses of the table
unfoldable pub entry_alone : ℕ → Entry → Bool
entry_alone n e = ltb e.by.0 n && within n e.details

-- the purse has used that number: "at least 1 and below its next one"
abbrev pub used_number : Purse → ℕ → Bool
used_number p s = leb 1 s && ltb s p.next.0

-- a message beside its payee: "In every message the payee's number is so"; "no acknowledge for those of a payee in epv"
unfoldable pub payee_ok : Purse → Message → Bool
payee_ok p m = used_number p m.details.payeeseq.0 && not (eqb m.kind acknowledge && is_at epv p m.details)

-- a message beside its payer: "in a value or acknowledge message the payer's too"; "No value or acknowledge stands for the details of
-- a payer in epr"
unfoldable pub payer_ok : Purse → Message → Bool
payer_ok p m =
    (eqb m.kind request || used_number p m.details.payerseq.0) && not (leb value m.kind && is_at epr p m.details)

-- the record that a name looks up: the name's own place where it is below 32
abbrev pub place_of : Name → ℕ
place_of n = n.0 % 32

abbrev pub record_of : List Purse → Name → Purse
record_of l n = get_or l (place_of n) zero_purse

-- a number that equal messages, and equal entries, have in common
unfoldable pub key_of : ℕ → Details → ℕ
key_of t d =
    (d.payee.0 * 16_777_216 + d.payer.0 * 524_288 + t * 4_194_304
    + (d.payeeseq.0 + d.payerseq.0 * 2_654_435_761 + d.amount.0 * 40_503))
    % 4_294_967_296

abbrev pub message_key : Message → ℕ
message_key m = key_of m.kind m.details

abbrev pub entry_key : Entry → ℕ
entry_key e = key_of e.by.0 e.details

-- a message beside the two records that it names
unfoldable pub message_beside : ℕ → Purse → Purse → Message → Bool
message_beside n payee payer m = message_alone n m && payee_ok payee m && payer_ok payer m

abbrev pub message_in : ℕ → List Purse → Message → Bool
message_in n l m = message_beside n (record_of l m.details.payee) (record_of l m.details.payer) m

-- the details stand among those that the purse has running or in its log
unfoldable pub holds : Purse → Details → Bool
holds p d = among same_details d (running p ++ kept p)

-- an archive entry beside the record of the purse that logged it: an entry of it, and neither running nor in its log
unfoldable pub entry_beside : ℕ → Purse → Entry → Bool
entry_beside n p e = entry_alone n e && entry_ok e.by p.next e.details && not (holds p e.details)

abbrev pub entry_in : ℕ → List Purse → Entry → Bool
entry_in n l e = entry_beside n (record_of l e.by) e

-- running details and log entries name purses of the table
unfoldable pub names_ok : ℕ → Purse → Bool
names_ok n p = all (within n) (running p ++ kept p)

-- record i alone: the rules about one purse, and "records past the purse count are all zero"
unfoldable pub record_ok : ℕ → ℕ → Purse → Bool
record_ok n i p = cond (ltb i n) (well_formed (called i) p && names_ok n p) (is_zero_purse p)

unfoldable pub records_ok : ℕ → List Purse → Bool
records_ok n l = every 32 (λ (i : ℕ). record_ok n i (get_or l i zero_purse))

-- the messages: their count, the unused places, and those that stand, each beside the records that it names, "No two messages are equal"
unfoldable pub messages_ok : ℕ → List Purse → Ether → Bool
messages_ok n l e =
    places_ok is_zero_message 256 e.count e.places && all (message_in n l) (standing e)
    && distinct same_message (standing e)

-- the archive, likewise: no purse has the same details twice among its archive entries
unfoldable pub entries_ok : ℕ → List Purse → Archive → Bool
entries_ok n l a =
    places_ok is_zero_entry 256 a.count a.places && all (entry_in n l) (collected a)
    && distinct same_entry (collected a)

-- "lent table of 32 records", "1 to 32 purses", each record alone, each message and each entry once
unfoldable pub by_messages : Held → Bool
by_messages h =
    eqb (length h.table) 32 && leb 1 h.desk.purses && leb h.desk.purses 32
    && records_ok h.desk.purses h.table
    && messages_ok h.desk.purses h.table h.desk.ether
    && entries_ok h.desk.purses h.table h.desk.archive
