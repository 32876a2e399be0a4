-- Lists, over any element type: each of a number of places, each member, some member, no two the same, those kept, a sum, lists in a row, one taken out.
use Rattle.std.specs.Prelude.{ℕ, zero, suc, ◌+◌, ◌-◌, Bool, true, ◌&&◌, not, List, [], ◌∷◌, ◌++◌, length, take, drop, replicate, filter}
use Rattle.std.specs.List.{list_all, list_any}

-- f holds at each of 0 .. n - 1
abbrev pub every : ℕ → (ℕ → Bool) → Bool
every zero f = true
every (suc n) f = every n f && f n

-- f holds of each member
abbrev pub all : {A : Type 0} → (A → Bool) → List A → Bool
all = list_all

-- x is the same as some member
abbrev pub among : {A : Type 0} → (A → A → Bool) → A → List A → Bool
among same x = list_any (same x)

-- no two members are the same
abbrev pub distinct : {A : Type 0} → (A → A → Bool) → List A → Bool
distinct same [] = true
distinct same (x ∷ xs) = not (among same x xs) && distinct same xs

-- the members of which f holds
abbrev pub keep : {A : Type 0} → (A → Bool) → List A → List A
keep = filter

-- the sum of the members' weights
abbrev pub total : {A : Type 0} → (A → ℕ) → List A → ℕ
total w [] = 0
total w (x ∷ xs) = w x + total w xs

-- the sum of f at 0 .. n - 1
abbrev pub sum_to : ℕ → (ℕ → ℕ) → ℕ
sum_to zero f = 0
sum_to (suc n) f = sum_to n f + f n

-- the lists at 0 .. n - 1, one behind the other
abbrev pub append_to : {A : Type 0} → ℕ → (ℕ → List A) → List A
append_to zero f = []
append_to (suc n) f = append_to n f ++ f n

-- without the member at place i: later ones move down one place
abbrev pub without : {A : Type 0} → ℕ → List A → List A
without i l = take i l ++ drop (suc i) l

-- a list laid out on n places, z at each unused one
abbrev pub padded : {A : Type 0} → ℕ → A → List A → List A
padded n z l = l ++ replicate (n - length l) z
