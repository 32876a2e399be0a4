-- A number's digits are those that the library writes.
-- Assumes nothing.
use mathlib.Core.Path.{◌≡◌, sym}
use Prim.Native.Nat.{ℕ, ◌^◌, ◌<◌}
use native.Mathlib.Omega.{arith}
use borrow.Author.Tests.{lt-ltb, le-ltb}
use Rattle.std.specs.Fmt.{decimal as decimal_text}
use Rattle.std.proofs.lemmas.Fmt.{AppendsLastDigit, decimal_from_appends, length-decimal-le}
use Rattle.lines.specs.Text.{digits, decimal}

by_last_digit : AppendsLastDigit digits
unfolding digits
by_last_digit = record { one = λ k n h. simp (lt-ltb n 10 h); more = λ k n h. simp (le-ltb n 10 h) }

pub decimal_of : (n : ℕ) → n < 2 ^ 64 → decimal_text n ≡ decimal n
decimal_of n h = sym (decimal_from_appends digits by_last_digit 20 n h (length-decimal-le 20 n (omega arith) (omega arith) h))
