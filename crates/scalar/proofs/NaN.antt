-- Arithmetic with a NaN gives a NaN; and std's constants, which a goal has by their bits.
use mathlib.Core.Path.{◌≡◌, refl}
use mathlib.Core.Bool.{true, false}
use lib.Ieee.{Float, nan, inf, fin, binary64, add, mul, of_bits}
use Rattle.scalar.specs.Operators.{◌⊕◌, ◌⊗◌}

pub add-nan : (x : Float) → x ⊕ nan ≡ nan
unfolding add
add-nan nan = refl
add-nan (inf s) = refl
add-nan (fin s m e) = refl

pub nan-add : (x : Float) → nan ⊕ x ≡ nan
unfolding add
nan-add x = refl

pub mul-nan : (x : Float) → x ⊗ nan ≡ nan
unfolding mul
mul-nan nan = refl
mul-nan (inf s) = refl
mul-nan (fin s m e) = refl

pub nan_constant : of_bits binary64 0x7FF8000000000000 ≡ nan
unfolding of_bits
nan_constant = refl

pub infinity_constant : of_bits binary64 0x7FF0000000000000 ≡ inf false
unfolding of_bits
infinity_constant = refl

pub neg_infinity_constant : of_bits binary64 0xFFF0000000000000 ≡ inf true
unfolding of_bits
neg_infinity_constant = refl

pub ruleset constants = (nan_constant, infinity_constant, neg_infinity_constant)
