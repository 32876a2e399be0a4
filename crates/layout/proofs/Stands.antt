-- What a well-formed bench's image is: as long as its counts say, and at most 12,042 bytes. (That this is
-- reached: crate image.)
-- Assumes nothing.
use Prim.Native.Nat.{ℕ, suc, ◌*◌, ◌≤◌, ◌<◌}
use mathlib.Core.Path.{◌≡◌, ap, ◌∙◌}
use mathlib.Core.Bool.{true, ◌&&◌}
use mathlib.Core.List.{List, [], ◌∷◌, ◌++◌}
use lib.ListN.{length, get_or}
use native.Mathlib.Omega.{arith}
use Rattle.purse.specs.Purse.{zero_purse}
use Rattle.purse.proofs.Bools.{and_r}
use Rattle.purse.proofs.Log.{log_long}
use Rattle.purse.proofs.Rules.{wf_log}
use Rattle.desk.specs.declared.Held.{Held}
use Rattle.bigendian.specs.Bytes.{All, flat}
use Rattle.bigendian.proofs.Coded.{any_all, many_coded}
use Rattle.layout.specs.Widths.{purse_width, message_width}
use Rattle.layout.specs.Records.{purse_bytes, message_bytes, entry_bytes}
use Rattle.layout.proofs.Records.{EightPlaces, purse_coded, message_coded}
use Rattle.rules.specs.Bench.{Bench, called, purse_at}
use Rattle.rules.specs.Table.{table_ok}
use Rattle.rules.specs.Laid.{seen, places_ok, is_zero_purse, is_zero_message, is_zero_entry, held_ok}
use Rattle.rules.proofs.Facts.{Table, is_table}
use Rattle.rules.proofs.Places.{laid-seen}
use Rattle.layout.specs.Head.{head_bytes, image_length}
use Rattle.layout.specs.Image.{bench_bytes, image_of}
use Rattle.layout.proofs.Whole.{Small, length_image}

-- what holds at each place holds of each
all_at : {A : Type 0} (P : A → Type 0) (z : A) (xs : List A) → ((i : ℕ) → i < length xs → P (get_or xs i z)) → All P xs
all_at P z [] h = tt
all_at P z (x ∷ xs) h = (h 0 (omega arith), all_at P z xs (λ i k. h (suc i) (omega arith)))

small_table : (b : Bench) → Table b → Small b
small_table b t =
    record {
      some = t.some;
      purses = t.few;
      messages = t.few_messages;
      archive = t.few_entries;
      logs =
          all_at EightPlaces zero_purse b.purses
          (λ i k. log_long (called i) (purse_at b i) (wf_log (called i) (purse_at b i) (t.well i k)));
    }

module _ (h : Held) (w : held_ok h ≡ true) where
  table_ok_lem : table_ok (seen h) ≡ true
  unfolding held_ok
  table_ok_lem =
      and_r
      (places_ok is_zero_purse 32 h.desk.purses h.table
      && places_ok is_zero_message 256 h.desk.ether.count h.desk.ether.places
      && places_ok is_zero_entry 256 h.desk.archive.count h.desk.archive.places)
      (table_ok (seen h))
      w

  pub small : Small (seen h)
  small = small_table (seen h) (is_table (seen h) table_ok_lem)

  -- the counts are the lists' lengths
  pub purses_count : length (seen h).purses ≡ h.desk.purses
  purses_count = ap (λ (x : Held). x.desk.purses) (laid-seen h w)

  pub messages_count : length (seen h).messages ≡ h.desk.ether.count
  messages_count = ap (λ (x : Held). x.desk.ether.count) (laid-seen h w)

  pub entries_count : length (seen h).archive ≡ h.desk.archive.count
  entries_count = ap (λ (x : Held). x.desk.archive.count) (laid-seen h w)

  pub held-length : length (image_of h) ≡ image_length h.desk.purses h.desk.ether.count h.desk.archive.count
  unfolding image_of
  held-length = length_image (seen h) small ∙ rw (purses_count, messages_count, entries_count)

  -- the counts are within their places
  pub record Counts : Type 0 where
    pub purses : h.desk.purses ≤ 32
    pub messages : h.desk.ether.count ≤ 256
    pub entries : h.desk.archive.count ≤ 256

  pub held_counts : Counts
  held_counts =
      record {
        purses = omega (arith, purses_count, small.purses);
        messages = omega (arith, messages_count, small.messages);
        entries = omega (arith, entries_count, small.archive);
      }

  -- how long the bytes of each list are
  pub record Lists : Type 0 where
    pub purses : length (flat purse_bytes (seen h).purses) ≡ purse_width * h.desk.purses
    pub messages : length (flat message_bytes (seen h).messages) ≡ message_width * h.desk.ether.count

  pub lists_length : Lists
  lists_length =
      record {
        purses = (many_coded purse_coded h.desk.purses).wide (seen h).purses (purses_count, small.logs);
        messages = (many_coded message_coded h.desk.ether.count).wide (seen h).messages (messages_count, any_all (seen h).messages);
      }

  -- "The largest image is 12,042 bytes"
  pub largest : length (image_of h) ≤ 12_042
  largest = omega (arith, held-length, held_counts.purses, held_counts.messages, held_counts.entries)

  pub held_image : image_of h
      ≡ head_bytes h.desk.purses h.desk.ether.count h.desk.archive.count
      ++ (flat purse_bytes (seen h).purses ++ (flat message_bytes (seen h).messages ++ flat entry_bytes (seen h).archive))
  unfolding image_of bench_bytes
  held_image = rw (purses_count, messages_count, entries_count)
