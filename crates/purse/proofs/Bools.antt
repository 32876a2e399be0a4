-- Laws of Bools that every proof uses: what a test that came out true or false says of its parts.
-- Assumes nothing.
use mathlib.Core.Path.{◌≡◌, refl, sym}
use mathlib.Core.Bool.{Bool, true, false, ◌&&◌, ◌||◌, not}
use mathlib.Core.Logic.{◌⊎◌, inl, inr}

-- Bools
pub and_l : (a b : Bool) → (a && b) ≡ true → a ≡ true
and_l true b e = refl
and_l false b e = e

pub and_r : (a b : Bool) → (a && b) ≡ true → b ≡ true
and_r true b e = e
and_r false b e = cc

pub no_and : (a b : Bool) → a ≡ false → (a && b) ≡ false
no_and a b e = simp e

pub or_l : (a b : Bool) → (a || b) ≡ true → b ≡ false → a ≡ true
or_l true b e f = refl
or_l false b e f = cc

pub or_r : (a b : Bool) → (a || b) ≡ true → a ≡ false → b ≡ true
or_r true b e f = cc
or_r false b e f = e

pub either : (a b : Bool) → (a || b) ≡ true → (a ≡ true) ⊎ (b ≡ true)
either true b e = inl refl
either false b e = inr e

pub and_i : {a b : Bool} → a ≡ true → b ≡ true → (a && b) ≡ true
and_i e f = simp (e, f)

pub or_inl : (a b : Bool) → a ≡ true → (a || b) ≡ true
or_inl a b e = simp e

pub or_inr : (a b : Bool) → b ≡ true → (a || b) ≡ true
or_inr true b e = refl
or_inr false b e = e

pub nor_l : (a b : Bool) → (a || b) ≡ false → a ≡ false
nor_l true b e = e
nor_l false b e = refl

pub nor_r : (a b : Bool) → (a || b) ≡ false → b ≡ false
nor_r true b e = cc
nor_r false b e = e

pub not_i : (a : Bool) → a ≡ false → not a ≡ true
not_i a e = simp e

pub which : (b : Bool) → (b ≡ true) ⊎ (b ≡ false)
which true = inl refl
which false = inr refl

-- a Bool that cannot be true is false
pub refute : (b : Bool) → (b ≡ true → ⊥) → b ≡ false
refute true h = absurd (h refl)
refute false h = refl

-- two Bools that hold together are equal
pub together : (a b : Bool) → (a ≡ true → b ≡ true) → (b ≡ true → a ≡ true) → a ≡ b
together true b f g = sym (f refl)
together false true f g = g refl
together false false f g = refl
