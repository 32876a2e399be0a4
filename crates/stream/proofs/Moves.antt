-- Bytes that go or come in parts, one behind the other.
-- Assumes nothing.
use Prim.Native.Nat.{ℕ, ◌+◌, ◌-◌, ◌≤◌}
use mathlib.Core.Path.{◌≡◌, sym, ◌∙◌}
use mathlib.Core.List.{List, ◌++◌}
use lib.ListN.{length, take, drop}
use lib.Seq.{take-add, take-append-le, length-take-le, drop_at}
use borrow.Rule.Slice.PartMut.{put_mid, post_of}
use Rattle.std.proofs.Common.{le_refl}
use Rattle.std.proofs.lemmas.List.{take_rest}
use Rattle.std.proofs.lemmas.Slice.{take-put_mid_below}

-- n bytes more go, behind the first i
pub more_went : (bytes : List ℕ) (i n : ℕ) → take i bytes ++ take n (take (length bytes - i) (drop i bytes)) ≡ take (i + n) bytes
more_went bytes i n = rw (take_rest bytes i) (sym (take-add i n bytes))

-- n bytes more come into the part behind the first i
pub more_came : (xs ys : List ℕ) (i k n : ℕ) → i ≤ length xs → n ≤ length ys → take i xs ++ take n ys ≡ take (i + n) (put_mid i k xs ys)
more_came xs ys i k n h fits =
    let front : take i (put_mid i k xs ys) ≡ take i xs = take-put_mid_below i k xs ys i (le_refl i) h in
    let behind : drop i (put_mid i k xs ys) ≡ ys ++ post_of i k xs = drop_at (take i xs) (ys ++ post_of i k xs) i (length-take-le i xs h) in
    let part : take n (ys ++ post_of i k xs) ≡ take n ys = take-append-le n ys (post_of i k xs) fits in
    sym (take-add i n (put_mid i k xs ys) ∙ rw (front, behind, part))
