-- A whole bench as bytes, and the bench that bytes give: document 01, "Stored image".
use Rattle.std.specs.Prelude.{ℕ, List, ◌++◌, length}
use Rattle.bigendian.specs.Bytes.{All, flat, many}
use Rattle.layout.specs.Widths.{head_width, purse_width, message_width, entry_width}
use Rattle.layout.specs.Fits.{FitPurse, FitMessage, FitEntry}
use Rattle.layout.specs.Records.{purse_bytes, purse_at, message_bytes, message_at, entry_bytes, entry_at}
use Rattle.desk.specs.declared.Held.{Held}
use Rattle.rules.specs.Bench.{Bench}
use Rattle.rules.specs.Laid.{laid, seen}
use Rattle.layout.specs.Head.{head_bytes, purses_in, messages_in, entries_in, messages_from, entries_from}

-- the head; "Then per purse 136 bytes"; "Then 15 bytes a message"; "Then 15 bytes an archive entry"
unfoldable pub bench_bytes : Bench → List ℕ
bench_bytes b =
    head_bytes (length b.purses) (length b.messages) (length b.archive)
    ++ (flat purse_bytes b.purses ++ (flat message_bytes b.messages ++ flat entry_bytes b.archive))

-- the image of what a bench holds
unfoldable pub image_of : Held → List ℕ
image_of h = bench_bytes (seen h)

-- the three lists that an image gives
unfoldable pub lists_in : List ℕ → Bench
lists_in l =
    record {
      purses = many purse_at purse_width (purses_in l) l head_width;
      messages = many message_at message_width (messages_in l) l (messages_from (purses_in l));
      archive = many entry_at entry_width (entries_in l) l (entries_from (purses_in l) (messages_in l));
    }

-- and how they lie in the table and the desk: everything unused is zero
unfoldable pub bench_in : List ℕ → Held
bench_in l = laid (lists_in l)

-- what the declared types say of a bench's numbers: each fits its four bytes
pub record Fits (b : Bench) : Type 0 where
  pub purses : All FitPurse b.purses
  pub messages : All FitMessage b.messages
  pub archive : All FitEntry b.archive
