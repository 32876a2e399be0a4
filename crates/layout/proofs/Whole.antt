-- A whole image as one record that holds a head and three lists: what is written is read back, and what is read is written back.
-- Assumes nothing.
use Prim.Native.Nat.{ℕ, ◌+◌, ◌*◌, ◌-◌, ◌≤◌}
use mathlib.Core.Path.{◌≡◌, refl, sym, ap, ◌∙◌}
use mathlib.Core.List.{List, ◌++◌}
use lib.ListN.{length, replicate}
use lib.Seq.{take_all, take-length}
use native.Mathlib.Omega.{arith}
use Rattle.purse.specs.declared.Purse.{Purse}
use Rattle.purse.specs.declared.Message.{Message}
use Rattle.purse.specs.Details.{zero_message}
use Rattle.purse.specs.Purse.{zero_purse}
use Rattle.desk.specs.declared.Entry.{Entry}
use Rattle.desk.specs.declared.Ether.{Ether}
use Rattle.desk.specs.declared.Archive.{Archive}
use Rattle.desk.specs.declared.Held.{Held}
use Rattle.desk.specs.Desk.{zero_entry}
use Rattle.bigendian.specs.Bytes.{byte, byte_at, big, number_at, Bytes, Below, All, flat, many}
use Rattle.layout.specs.Records.{purse_bytes, purse_at, message_bytes, message_at, entry_bytes, entry_at}
use Rattle.bigendian.proofs.Coded.{Coded, Any, seg, any_all, byte_coded, number_coded, pair_coded, held_coded, many_coded, length-many}
use Rattle.layout.proofs.Records.{EightPlaces, purse_coded, message_coded, entry_coded}
use Rattle.rules.specs.Bench.{Bench}
use Rattle.layout.specs.Widths.{head_width, purse_width, message_width, entry_width}
use Rattle.layout.specs.Head.{version, head_bytes, purses_in, messages_in, entries_in, messages_from, entries_from, image_length}
use Rattle.layout.specs.Image.{bench_bytes, lists_in, bench_in, Fits}
use Rattle.layout.proofs.Heads.{HeadOk}

-- a head's values
pub record Head : Type 0 where
  pub mark1 : ℕ
  pub mark2 : ℕ
  pub mark3 : ℕ
  pub version : ℕ
  pub purses : ℕ
  pub messages : ℕ
  pub entries : ℕ

record FitHead (h : Head) : Type 0 where
  pub version : Below 2 h.version
  pub messages : Below 2 h.messages
  pub entries : Below 2 h.entries

abbrev head_of : Head → List ℕ
head_of h =
    byte h.mark1 ++ byte h.mark2 ++ byte h.mark3 ++ big 2 h.version ++ byte h.purses ++ big 2 h.messages
    ++ big 2 h.entries

abbrev head_at : List ℕ → ℕ → Head
head_at l i =
    record {
      mark1 = byte_at l i;
      mark2 = byte_at l (i + 1);
      mark3 = byte_at l (i + 2);
      version = number_at 2 l (i + 3);
      purses = byte_at l (i + 5);
      messages = number_at 2 l (i + 6);
      entries = number_at 2 l (i + 8);
    }

head_coded : Coded head_of head_at head_width Any FitHead
head_coded =
    held_coded Any FitHead
    (λ (h : Head). ((((((h.mark1, h.mark2), h.mark3), h.version), h.purses), h.messages), h.entries))
    (λ (x : (((((ℕ × ℕ) × ℕ) × ℕ) × ℕ) × ℕ) × ℕ).
    record {
      mark1 = x.0.0.0.0.0.0;
      mark2 = x.0.0.0.0.0.1;
      mark3 = x.0.0.0.0.1;
      version = x.0.0.0.1;
      purses = x.0.0.1;
      messages = x.0.1;
      entries = x.1;
    })
    (λ h. refl) (λ x. refl) (λ h s. ((((((tt, tt), tt), tt), tt), tt), tt))
    (λ h f. ((((((tt, tt), tt), f.version), tt), f.messages), f.entries))
    (pair_coded
    (pair_coded (pair_coded (pair_coded (pair_coded (pair_coded byte_coded byte_coded) byte_coded) (number_coded 2)) byte_coded) (number_coded 2))
    (number_coded 2))

-- a head and three lists
record Image : Type 0 where
  pub head : Head
  pub lists : Bench

-- so many purses, messages and entries, each log of eight places
record Counted (p m a : ℕ) (x : Image) : Type 0 where
  pub purses : length x.lists.purses ≡ p
  pub messages : length x.lists.messages ≡ m
  pub archive : length x.lists.archive ≡ a
  pub logs : All EightPlaces x.lists.purses

record FitImage (x : Image) : Type 0 where
  pub head : FitHead x.head
  pub lists : Fits x.lists

abbrev whole_bytes : Image → List ℕ
whole_bytes x =
    head_of x.head
    ++ (flat purse_bytes x.lists.purses ++ (flat message_bytes x.lists.messages ++ flat entry_bytes x.lists.archive))

abbrev whole_at : ℕ → ℕ → ℕ → List ℕ → ℕ → Image
whole_at p m a l i =
    record {
      head = head_at l i;
      lists =
          record {
            purses = many purse_at purse_width p l (i + head_width);
            messages = many message_at message_width m l (i + head_width + purse_width * p);
            archive = many entry_at entry_width a l (i + head_width + purse_width * p + message_width * m);
          };
    }

whole_coded : (p m a : ℕ) → Coded whole_bytes (whole_at p m a) (head_width + (purse_width * p + (message_width * m + entry_width * a))) (Counted p m a) FitImage
whole_coded p m a =
    held_coded (Counted p m a) FitImage
    (λ (x : Image). (x.head, (x.lists.purses, (x.lists.messages, x.lists.archive))))
    (λ (y : Head × (List Purse × (List Message × List Entry))).
    record { head = y.0; lists = record { purses = y.1.0; messages = y.1.1.0; archive = y.1.1.1 } })
    (λ x. refl) (λ y. refl)
    (λ x s. (
      tt,
      ((s.purses, s.logs), ((s.messages, any_all x.lists.messages), (s.archive, any_all x.lists.archive))),
    ))
    (λ x f. (f.head, (f.lists.purses, (f.lists.messages, f.lists.archive))))
    (pair_coded head_coded
    (pair_coded (many_coded purse_coded p) (pair_coded (many_coded message_coded m) (many_coded entry_coded a))))

-- the image of three lists
abbrev imaged : Bench → Image
imaged b =
    record {
      head =
          record {
            mark1 = 0x50;
            mark2 = 0x52;
            mark3 = 0x53;
            version = version;
            purses = length b.purses;
            messages = length b.messages;
            entries = length b.archive;
          };
      lists = b;
    }

imaged_bytes : (b : Bench) → bench_bytes b ≡ whole_bytes (imaged b)
unfolding bench_bytes head_bytes
imaged_bytes b = refl

-- three lists that an image can hold
pub record Small (b : Bench) : Type 0 where
  pub some : 1 ≤ length b.purses
  pub purses : length b.purses ≤ 32
  pub messages : length b.messages ≤ 256
  pub archive : length b.archive ≤ 256
  pub logs : All EightPlaces b.purses

counted : (b : Bench) → Small b → Counted (length b.purses) (length b.messages) (length b.archive) (imaged b)
counted b s = record { purses = refl; messages = refl; archive = refl; logs = s.logs }

pub length_image : (b : Bench) → Small b → length (bench_bytes b) ≡ image_length (length b.purses) (length b.messages) (length b.archive)
length_image b s =
    ap length (imaged_bytes b)
    ∙ (whole_coded (length b.purses) (length b.messages) (length b.archive)).wide (imaged b) (counted b s)
    ∙ omega arith

-- an image gives the lists back that it was written of, and its head is right
module _ (b : Bench) (s : Small b) (f : Fits b) where
  whole_back : whole_at (length b.purses) (length b.messages) (length b.archive) (bench_bytes b) 0 ≡ imaged b
  unfolding seg bench_bytes head_bytes
  whole_back =
      (whole_coded (length b.purses) (length b.messages) (length b.archive)).back (bench_bytes b) 0 (imaged b) (counted b s)
      (record {
        head = record { version = omega arith; messages = omega (arith, s.messages); entries = omega (arith, s.archive) };
        lists = f;
      })
      (record { is = take-length (bench_bytes b) })

  pub lists_back : lists_in (bench_bytes b) ≡ b
  unfolding lists_in
  lists_back =
      let p : purses_in (bench_bytes b) ≡ length b.purses = ap (λ (x : Image). x.head.purses) whole_back in
      let m : messages_in (bench_bytes b) ≡ length b.messages = ap (λ (x : Image). x.head.messages) whole_back in
      let a : entries_in (bench_bytes b) ≡ length b.archive = ap (λ (x : Image). x.head.entries) whole_back in
      rw (p, m, a) (ap (λ (x : Image). x.lists) whole_back)

  pub head_back : HeadOk (bench_bytes b)
  head_back =
      let p : purses_in (bench_bytes b) ≡ length b.purses = ap (λ (x : Image). x.head.purses) whole_back in
      let m : messages_in (bench_bytes b) ≡ length b.messages = ap (λ (x : Image). x.head.messages) whole_back in
      let a : entries_in (bench_bytes b) ≡ length b.archive = ap (λ (x : Image). x.head.entries) whole_back in
      record {
        mark1 = ap (λ (x : Image). x.head.mark1) whole_back;
        mark2 = ap (λ (x : Image). x.head.mark2) whole_back;
        mark3 = ap (λ (x : Image). x.head.mark3) whole_back;
        version = ap (λ (x : Image). x.head.version) whole_back;
        some = omega (arith, s.some, p);
        purses = omega (arith, s.purses, p);
        messages = omega (arith, s.messages, m);
        entries = omega (arith, s.archive, a);
        long = length_image b s ∙ rw (p, m, a);
      }

-- bytes whose head is right are the image of the lists that they give
pub lists_again : (l : List ℕ) → Bytes l → HeadOk l → bench_bytes (lists_in l) ≡ l
unfolding lists_in seg
lists_again l k h =
    let c = whole_coded (purses_in l) (messages_in l) (entries_in l) in
    let b : Bench = lists_in l in
    let e : Head = head_at l 0 in
    let p : length b.purses ≡ purses_in l = length-many purse_at purse_width (purses_in l) l head_width in
    let m : length b.messages ≡ messages_in l = length-many message_at message_width (messages_in l) l (messages_from (purses_in l)) in
    let a : length b.archive ≡ entries_in l = length-many entry_at entry_width (entries_in l) l (entries_from (purses_in l) (messages_in l)) in
    let same : (imaged b).head ≡ e =
    (λ i. record { mark1 = sym h.mark1 i; mark2 = sym h.mark2 i; mark3 = sym h.mark3 i; version = sym h.version i; purses = p i; messages = m i; entries = a i })
    in
    imaged_bytes b
    ∙ ap (λ (x : Head). whole_bytes (record { head = x; lists = b })) same
    ∙ c.again l 0 (omega (arith, h.long)) k
    ∙ take_all (head_width + (purse_width * purses_in l + (message_width * messages_in l + entry_width * entries_in l))) l (omega (arith, h.long))

-- a table and a desk that hold the lists of an image, and zeros behind each, are the bench that it gives
pub placed : (l : List ℕ) {t : List Purse} {e : Ether} {a : Archive}
    → t ≡ many purse_at purse_width (purses_in l) l head_width ++ replicate (32 - purses_in l) zero_purse
    → e
    ≡ record {
      places = many message_at message_width (messages_in l) l (messages_from (purses_in l)) ++ replicate (256 - messages_in l) zero_message;
      count = messages_in l;
    }
    → a
    ≡ record {
      places =
          many entry_at entry_width (entries_in l) l (entries_from (purses_in l) (messages_in l)) ++ replicate (256 - entries_in l) zero_entry;
      count = entries_in l;
    }
    → ◌≡◌ {A = Held} (record { table = t; desk = record { purses = purses_in l; ether = e; archive = a } }) (bench_in l)
unfolding bench_in lists_in
placed l p q r =
    rw (
      p,
      q,
      r,
      length-many purse_at purse_width (purses_in l) l head_width,
      length-many message_at message_width (messages_in l) l (messages_from (purses_in l)),
      length-many entry_at entry_width (entries_in l) l (entries_from (purses_in l) (messages_in l)),
    )
