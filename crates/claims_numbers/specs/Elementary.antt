-- What two of the elementary functions' definitions mean, said without a way to compute them.
use Rattle.std.specs.Prelude.{Bool, ℕ, ◌*◌, T, ℤ, Float}
use Rattle.std.specs.Float.{fin}
use Rattle.std.specs.Float.Ieee.{up, down}
use Rattle.std.specs.Float.Ieee.Positive.{positive}
use Rattle.limits.specs.Zero.{plus_zero}
use Rattle.scalar.specs.Constants.{one, two, half, pi, epsilon}
use Rattle.claims_numbers.specs.declared.Constants.{Constants}
use Rattle.elementary.specs.Whole.{nearest_of, NearestWhole}
use Rattle.logarithm.specs.Logarithm.{parts_of, Splits}

-- every finite x is the fraction m * up e / down e with the sign s
pub record NearestIsNearest : Type 0 where
  pub at : (s : Bool) (m : ℕ) (e : ℤ) → NearestWhole s (m * up e) (down e) (nearest_of (fin s m e))

-- every finite x above zero
pub record LnSplits : Type 0 where
  pub at : (x : Float) → T (positive x) → Splits x (parts_of x)

-- 004's constants at f64: PI is 400921FB54442D18 and EPSILON 3CB0000000000000
abbrev pub constants_of : Constants
constants_of = record { zero = plus_zero; one = one; two = two; half = half; pi = pi; epsilon = epsilon }
