-- A test of a chain: one that was passed does not apply, and what the last one answers.
-- Assumes nothing.
use mathlib.Core.Path.{◌≡◌, refl}
use mathlib.Core.Bool.{Bool, true, false, cond}
use Rattle.std.proofs.Common.{Ok}
use Rattle.purse.specs.declared.refusal.Refusal.{Refusal}
use Rattle.purse.specs.Refusals.{number_of, answer_of, refused_if}

pub passed_by : (t : Bool) (why : Refusal) {u : Unit {0}} → Ok u ≡ refused_if t why → t ≡ false
passed_by true why e = cc
passed_by false why e = refl

pub answered : (t : Bool) (why : Refusal) → answer_of (refused_if t why) ≡ cond t (number_of why) 0
answered true why = refl
answered false why = refl
