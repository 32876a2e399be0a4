-- A balance that a purse may be opened with.
use Rattle.std.specs.Prelude.{ℕ, Bool, leb}
use Rattle.purse.specs.Purse.{ceiling}
use Rattle.rules.specs.Bench.{opened_at}

abbrev pub within : ℕ → Bool
within b = leb b (ceiling (opened_at b))
