-- The absolute value and the finite numbers in std's words, and NaN.
use mathlib.Core.Path.{◌≡◌, refl}
use mathlib.Core.Bool.{false}
use lib.Ieee.{Float, nan, inf, fin}
use lib.Ieee.Scale.{finite}
use Rattle.std.specs.Float.{float_with_sign, float_is_finite}
use Rattle.scalar.specs.Sign.{abs_of}

-- ---- the absolute value and the finite numbers, in std's words
pub abs_is : (x : Float) → float_with_sign false x ≡ abs_of x
unfolding float_with_sign abs_of
abs_is nan = refl
abs_is (inf s) = refl
abs_is (fin s m e) = refl

pub finite_is : (x : Float) → float_is_finite x ≡ finite x
unfolding float_is_finite
finite_is nan = refl
finite_is (inf s) = refl
finite_is (fin s m e) = refl
