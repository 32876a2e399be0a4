-- What is written of each record is read back, and what is read is written back: each record is its parts, one after the other.
-- Assumes nothing.
use Prim.Native.Nat.{ℕ}
use mathlib.Core.Path.{◌≡◌, refl}
use lib.ListN.{length}
use mathlib.Core.List.{List}
use Rattle.purse.specs.declared.Details.{Details}
use Rattle.purse.specs.declared.Message.{Message}
use Rattle.purse.specs.declared.Purse.{Purse}
use Rattle.desk.specs.declared.Entry.{Entry}
use Rattle.layout.specs.Records.{details_bytes, details_at, purse_bytes, purse_at, message_bytes, message_at, entry_bytes, entry_at}
use Rattle.layout.specs.Widths.{details_width, purse_width, message_width, entry_width}
use Rattle.layout.specs.Fits.{FitDetails, FitPurse, FitMessage, FitEntry}
use Rattle.bigendian.proofs.Coded.{Coded, Any, any_all, byte_coded, number_coded, pair_coded, held_coded, many_coded}

pub details_coded : Coded details_bytes details_at details_width Any FitDetails
unfolding details_bytes details_at
details_coded =
    held_coded Any FitDetails
    (λ (d : Details). ((((d.payer.0, d.payerseq.0), d.payee.0), d.payeeseq.0), d.amount.0))
    (λ (x : (((ℕ × ℕ) × ℕ) × ℕ) × ℕ).
    record {
      payer = record { 0 = x.0.0.0.0 };
      payerseq = record { 0 = x.0.0.0.1 };
      payee = record { 0 = x.0.0.1 };
      payeeseq = record { 0 = x.0.1 };
      amount = record { 0 = x.1 };
    })
    (λ d. refl) (λ x. refl) (λ d s. ((((tt, tt), tt), tt), tt)) (λ d f. ((((tt, f.payerseq), tt), f.payeeseq), f.amount))
    (pair_coded (pair_coded (pair_coded (pair_coded byte_coded (number_coded 4)) byte_coded) (number_coded 4)) (number_coded 4))

-- a log of eight places
abbrev pub EightPlaces : Purse → Type 0
EightPlaces p = length p.log ≡ 8

pub purse_coded : Coded purse_bytes purse_at purse_width EightPlaces FitPurse
unfolding purse_bytes purse_at
purse_coded =
    held_coded EightPlaces FitPurse
    (λ (p : Purse). (((((p.balance.0, p.next.0), p.status), p.logged), p.details), p.log))
    (λ (x : ((((ℕ × ℕ) × ℕ) × ℕ) × Details) × List Details).
    record {
      balance = record { 0 = x.0.0.0.0.0 };
      next = record { 0 = x.0.0.0.0.1 };
      status = x.0.0.0.1;
      details = x.0.1;
      log = x.1;
      logged = x.0.0.1;
    })
    (λ p. refl) (λ x. refl) (λ p s. (((((tt, tt), tt), tt), tt), (s, any_all p.log))) (λ p f. (((((f.balance, f.next), tt), tt), f.details), f.log))
    (pair_coded (pair_coded (pair_coded (pair_coded (pair_coded (number_coded 4) (number_coded 4)) byte_coded) byte_coded) details_coded)
    (many_coded details_coded 8))

pub message_coded : Coded message_bytes message_at message_width Any FitMessage
unfolding message_bytes message_at
message_coded =
    held_coded Any FitMessage (λ (m : Message). (m.kind, m.details)) (λ (x : ℕ × Details). record { kind = x.0; details = x.1 })
    (λ m. refl) (λ x. refl) (λ m s. (tt, tt)) (λ m f. (tt, f.details))
    (pair_coded byte_coded details_coded)

pub entry_coded : Coded entry_bytes entry_at entry_width Any FitEntry
unfolding entry_bytes entry_at
entry_coded =
    held_coded Any FitEntry (λ (e : Entry). (e.by.0, e.details)) (λ (x : ℕ × Details). record { by = record { 0 = x.0 }; details = x.1 })
    (λ e. refl) (λ x. refl) (λ e s. (tt, tt)) (λ e f. (tt, f.details))
    (pair_coded byte_coded details_coded)
