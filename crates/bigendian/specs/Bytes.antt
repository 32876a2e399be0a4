-- Bytes: a number written with its highest byte first and read back, over the width; a list's elements one after the other; a buffer with
-- other bytes from a place on.
use Rattle.std.specs.Prelude.{ℕ, zero, suc, ◌+◌, ◌*◌, ◌-◌, ◌/◌, ◌%◌, ◌<◌, cond, ◌&&◌, List, [], ◌∷◌, ◌++◌, length, take, drop, get_or, leb}
use Rattle.std.proofs.lemmas.List.Edits.{sets}

-- a buffer with the bytes vs from place i on
unfoldable pub put : List ℕ → ℕ → List ℕ → List ℕ
put l i vs = sets l i vs

-- the same where there is room for w bytes from i on; as it was where there is not
unfoldable pub put_in : ℕ → List ℕ → ℕ → List ℕ → List ℕ
put_in w l i vs = cond (leb (i + w) (length l)) (put l i vs) l

-- one byte
abbrev pub byte : ℕ → List ℕ
byte b = b ∷ []

-- the byte at a place, 0 past the end
abbrev pub byte_at : List ℕ → ℕ → ℕ
byte_at l at = get_or l at 0

-- "all big-endian": a number in w bytes, the highest first
unfoldable pub big : ℕ → ℕ → List ℕ
big zero n = []
big (suc w) n = big w (n / 256) ++ (n % 256 ∷ [])

-- the number that w bytes at a place spell, the highest first
unfoldable pub number_at : ℕ → List ℕ → ℕ → ℕ
number_at zero l at = 0
number_at (suc w) l at = number_at w l at * 256 + get_or l (at + w) 0

-- the number that four bytes at a place spell; 0 where they are not all there
unfoldable pub number_in : List ℕ → ℕ → ℕ
number_in l at = cond (leb (at + 4) (length l)) (number_at 4 l at) 0

-- what w bytes at a place give; z where they are not all there
unfoldable pub read_in : {A : Type 0} → (List ℕ → ℕ → A) → ℕ → A → List ℕ → ℕ → A
read_in g w z l at = cond (leb (at + w) (length l)) (g l at) z

-- every element is a byte
abbrev pub Bytes : List ℕ → Type 0
Bytes l = (i : ℕ) → get_or l i 0 < 256

-- how many numbers w bytes can spell
abbrev pub room : ℕ → ℕ
room zero = 1
room (suc w) = room w * 256

-- a number that w bytes can spell
abbrev pub Below : ℕ → ℕ → Type 0
Below w n = n < room w

-- each element of a list has a property
abbrev pub All : {A : Type 0} → (A → Type 0) → List A → Type 0
All P [] = Unit
All P (x ∷ xs) = P x × All P xs

-- the bytes of each of a list, one after the other
unfoldable pub flat : {A : Type 0} → (A → List ℕ) → List A → List ℕ
flat f [] = []
flat f (x ∷ xs) = f x ++ flat f xs

-- n values read one after the other, each w bytes long
unfoldable pub many : {A : Type 0} → (List ℕ → ℕ → A) → ℕ → ℕ → List ℕ → ℕ → List A
many g w zero l at = []
many g w (suc n) l at = g l at ∷ many g w n l (at + w)

-- a buffer with the bytes of the first n of k places, each w bytes long, from a place on; as it was where n is above k or they have no room
unfoldable pub put_first : {A : Type 0} → (A → List ℕ) → ℕ → ℕ → List A → ℕ → List ℕ → ℕ → List ℕ
put_first f w k xs n l at = cond (leb n k && leb (w * n) (length l - at)) (put l at (flat f (take n xs))) l

-- the first n of a list's places with values read one after the other, each w bytes long; as they were where n is above them or the values
-- are not all there
unfoldable pub get_first : {A : Type 0} → (List ℕ → ℕ → A) → ℕ → List A → ℕ → List ℕ → ℕ → List A
get_first g w xs n l at = cond (leb n (length xs) && leb (w * n) (length l - at)) (many g w n l at ++ drop n xs) xs
