-- The members behind a place copied one place down, and the last place written: the member at that place is pulled out. Assumes nothing.
use Rattle.std.proofs.Common.{◌≡◌, ℕ, ◌+◌, ◌-◌, ◌≤◌, List, [], ◌++◌, length, get_or, set, take, drop, append_assoc, length-append, length-take, length-drop, drop-cons, add-one, arith}
use Prim.Native.Nat.{suc}
use Rattle.std.specs.List.{copy_within}
use Rattle.std.proofs.lemmas.List.{take_all, drop_all, set_at}
use Rattle.desk.specs.Desk.{pulled}

pub moved : {A : Type 0} (l : List A) (i k n : ℕ) (z : A) → length l ≡ k + 1 → n ≡ k + 1 → i ≤ k → set (copy_within l (i + 1) n i) k z ≡ pulled i z l
moved l i k n z long all here =
    let rest : take (n - (i + 1)) (drop (i + 1) l) ≡ drop (suc i) l = rw add-one (take_all (n - suc i) (drop (suc i) l) (omega (arith, length-drop (suc i) l))) in
    let at : i + (n - (i + 1)) ≡ k = omega arith in
    let ends : drop (suc k) l ≡ [] = drop_all (suc k) l (omega arith) in
    let fits : length (take i l ++ drop (suc i) l) ≡ k = rw length-append (omega (arith, length-take i l, length-drop (suc i) l)) in
    rw (rest, at, drop-cons l k z (omega arith), set_at (take i l ++ drop (suc i) l) (get_or l k z) (drop (suc k) l) z k fits, ends, append_assoc)
