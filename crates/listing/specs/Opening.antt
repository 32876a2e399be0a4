-- "Standard input: purse count, 4 bytes a balance, then events. Too few opening bytes count as 20."
use Rattle.std.specs.Prelude.{ℕ, ◌+◌, ◌*◌, Bool, ◌&&◌, cond, List, [], length, get_or, leb}
use Rattle.purse.specs.Lists.{padded}
use Rattle.bigendian.specs.Bytes.{number_at, many}
use Rattle.listing.specs.declared.Opening.{Opening}

-- n balances of four bytes, one after the other
abbrev pub balances_at : ℕ → List ℕ → ℕ → List ℕ
balances_at n l at = many (number_at 4) 4 n l at

-- how many balance bytes follow a purse count: none behind a count that opening refuses
abbrev pub balance_bytes : ℕ → ℕ
balance_bytes count = cond (leb count 32) (4 * count) 0

-- the count is one that opening may take, and its balances are all there
unfoldable pub whole_opening : List ℕ → Bool
whole_opening l = leb (get_or l 0 0) 32 && leb (1 + 4 * get_or l 0 0) (length l)

-- the balances; none where there are too few bytes or the count is above 32: opening then answers 20
unfoldable pub balances_in : List ℕ → List ℕ
balances_in l = cond (whole_opening l) (balances_at (get_or l 0 0) l 1) []

-- the balances laid on 32 places
unfoldable pub opening_in : List ℕ → Opening
opening_in l = record { count = length (balances_in l); balances = padded 32 0 (balances_in l) }
