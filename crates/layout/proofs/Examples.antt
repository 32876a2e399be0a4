-- A head and details worked by hand: "all big-endian".
-- Assumes nothing.
use mathlib.Core.Path.{◌≡◌, refl}
use mathlib.Core.List.{[], ◌∷◌}
use Rattle.bigendian.specs.Bytes.{big}
use Rattle.layout.specs.Head.{head_bytes}
use Rattle.layout.specs.Records.{details_bytes}

-- two purses, two messages, 258 entries
pub head_example : head_bytes 2 2 258 ≡ 0x50 ∷ 0x52 ∷ 0x53 ∷ 0 ∷ 1 ∷ 2 ∷ 0 ∷ 2 ∷ 1 ∷ 2 ∷ []
unfolding head_bytes big
head_example = refl

-- 300 from purse 0 to purse 1, its numbers 1 and 16,909,060
pub details_example :
    details_bytes
    (record {
      payer = record { 0 = 0 };
      payerseq = record { 0 = 1 };
      payee = record { 0 = 1 };
      payeeseq = record { 0 = 0x01020304 };
      amount = record { 0 = 300 };
    })
    ≡ 0 ∷ 0 ∷ 0 ∷ 0 ∷ 1 ∷ 1 ∷ 1 ∷ 2 ∷ 3 ∷ 4 ∷ 0 ∷ 0 ∷ 1 ∷ 0x2C ∷ []
unfolding details_bytes big
details_example = refl
