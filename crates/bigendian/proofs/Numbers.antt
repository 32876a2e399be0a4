-- A value read from any list: what its bytes give where they are all there, and where not.
-- Assumes nothing.
use mathlib.Core.Path.{◌≡◌}
use Prim.Native.Nat.{ℕ, ◌+◌, ◌≤◌, ◌<◌}
use mathlib.Core.List.{List}
use lib.ListN.{length}
use borrow.Author.Tests.{le-leb, lt-leb}
use Rattle.bigendian.specs.Bytes.{number_at, number_in, read_in}

module _ {A : Type 0} (g : List ℕ → ℕ → A) (w : ℕ) (z : A) (l : List ℕ) (at : ℕ) where
  pub read_there : at + w ≤ length l → read_in g w z l at ≡ g l at
  unfolding read_in
  read_there h = rw (le-leb (at + w) (length l) h)

  pub read_missing : length l < at + w → read_in g w z l at ≡ z
  unfolding read_in
  read_missing h = rw (lt-leb (at + w) (length l) h)

-- a number of four bytes is such a value
module _ (l : List ℕ) (at : ℕ) where
  pub number_there : at + 4 ≤ length l → number_in l at ≡ number_at 4 l at
  unfolding number_in read_in
  number_there = read_there (number_at 4) 4 0 l at

-- and so is a count of two
pub count_there : (l : List ℕ) (at : ℕ) → at + 2 ≤ length l → read_in (number_at 2) 2 0 l at ≡ number_at 2 l at
count_there l at = read_there (number_at 2) 2 0 l at
