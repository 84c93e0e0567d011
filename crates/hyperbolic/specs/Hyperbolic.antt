-- 01: "sinh, cosh: (exp(a) − exp(−a)) × 0.5 and (exp(a) + exp(−a)) × 0.5. arcsinh as in 001": ln(x + √(x × x + 1)).
-- 02's Q-4: "For |a| below 1 let sinh be a + (a × s) × P, s = a × a, P in s from 1/3!, 1/5!, to 1/17!. Elsewhere the old rule holds."
use Rattle.std.specs.Prelude.{Bool, cond, Float}
use Rattle.std.specs.Float.Ieee as Ieee
use Rattle.std.specs.Float.Ieee.{neg}
use Rattle.std.specs.Float.{binary64}
use Rattle.ieee.specs.Sqrt.{sqrt_of}
use Rattle.scalar.specs.Operators.{◌⊕◌, ◌⊖◌, ◌⊗◌}
use Rattle.scalar.specs.Constants.{one, half}
use Rattle.scalar.specs.Sign.{abs_of}
use Rattle.series.specs.Series.{sinh_series}
use Rattle.elementary.specs.Exponential.{exp_of}
use Rattle.logarithm.specs.Logarithm.{ln_of}

-- |a| is below 1; a NaN's is not
abbrev pub magnitude_below_one : Float → Bool
magnitude_below_one a = Ieee.lt (abs_of a) one

-- a + (a × s) × P, s = a × a
abbrev pub sinh_by_series : Float → Float
sinh_by_series a = a ⊕ (a ⊗ (a ⊗ a)) ⊗ sinh_series (a ⊗ a)

-- the old rule, 01's
abbrev pub sinh_by_exp : Float → Float
sinh_by_exp a = (exp_of a ⊖ exp_of (neg a)) ⊗ half

unfoldable pub sinh_of : Float → Float
sinh_of a = cond (magnitude_below_one a) (sinh_by_series a) (sinh_by_exp a)

unfoldable pub cosh_of : Float → Float
cosh_of a = (exp_of a ⊕ exp_of (neg a)) ⊗ half

unfoldable pub arcsinh_of : Float → Float
arcsinh_of x = ln_of (x ⊕ sqrt_of binary64 (x ⊗ x ⊕ one))
