-- A number worked by hand: "all big-endian".
-- Assumes nothing.
use mathlib.Core.Path.{◌≡◌, refl}
use mathlib.Core.List.{[], ◌∷◌}
use Rattle.bigendian.specs.Bytes.{big, number_at}

pub big_example : big 4 0x01020304 ≡ 1 ∷ 2 ∷ 3 ∷ 4 ∷ []
unfolding big
big_example = refl

pub number_example : number_at 4 (9 ∷ 1 ∷ 2 ∷ 3 ∷ 4 ∷ []) 1 ≡ 0x01020304
unfolding number_at
number_example = refl
