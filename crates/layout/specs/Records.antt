-- The records of a stored image as bytes, and read back at a place: each pair of definitions beside document 01's sentence. A field that
-- is added later is one part more in both of a pair.
use Rattle.std.specs.Prelude.{ℕ, ◌+◌, List, ◌++◌}
use Rattle.purse.specs.declared.Details.{Details}
use Rattle.purse.specs.declared.Message.{Message}
use Rattle.purse.specs.declared.Purse.{Purse}
use Rattle.desk.specs.declared.Entry.{Entry}
use Rattle.bigendian.specs.Bytes.{byte, byte_at, big, number_at, flat, many}
use Rattle.layout.specs.Widths.{byte_width, details_width, payerseq_place, payee_place, payeeseq_place, amount_place, next_place, status_place, logged_place, details_place, log_place}

-- "Details: payer 1, its number 4, payee 1, its number 4, amount 4"
unfoldable pub details_bytes : Details → List ℕ
details_bytes d =
    byte d.payer.0 ++ big 4 d.payerseq.0 ++ byte d.payee.0 ++ big 4 d.payeeseq.0 ++ big 4 d.amount.0

unfoldable pub details_at : List ℕ → ℕ → Details
details_at l at =
    record {
      payer = record { 0 = byte_at l at };
      payerseq = record { 0 = number_at 4 l (at + payerseq_place) };
      payee = record { 0 = byte_at l (at + payee_place) };
      payeeseq = record { 0 = number_at 4 l (at + payeeseq_place) };
      amount = record { 0 = number_at 4 l (at + amount_place) };
    }

-- "eight log places of 14"
abbrev pub log_bytes : List Details → List ℕ
log_bytes ds = flat details_bytes ds

abbrev pub log_at : List ℕ → ℕ → List Details
log_at l at = many details_at details_width 8 l at

-- "per purse 136 bytes: balance 4, next 4, status 1, log count 1, details 14, eight log places of 14"
unfoldable pub purse_bytes : Purse → List ℕ
purse_bytes p =
    big 4 p.balance.0 ++ big 4 p.next.0 ++ byte p.status ++ byte p.logged ++ details_bytes p.details
    ++ log_bytes p.log

unfoldable pub purse_at : List ℕ → ℕ → Purse
purse_at l at =
    record {
      balance = record { 0 = number_at 4 l at };
      next = record { 0 = number_at 4 l (at + next_place) };
      status = byte_at l (at + status_place);
      details = details_at l (at + details_place);
      log = log_at l (at + log_place);
      logged = byte_at l (at + logged_place);
    }

-- "15 bytes a message: kind (1 request, 2 value, 3 acknowledge), details"
unfoldable pub message_bytes : Message → List ℕ
message_bytes m = byte m.kind ++ details_bytes m.details

unfoldable pub message_at : List ℕ → ℕ → Message
message_at l at = record { kind = byte_at l at; details = details_at l (at + byte_width) }

-- "15 bytes an archive entry: logging purse, details"
unfoldable pub entry_bytes : Entry → List ℕ
entry_bytes e = byte e.by.0 ++ details_bytes e.details

unfoldable pub entry_at : List ℕ → ℕ → Entry
entry_at l at = record { by = record { 0 = byte_at l at }; details = details_at l (at + byte_width) }
