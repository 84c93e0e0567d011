-- 01's exp and 10 to the y.
use Rattle.std.specs.Prelude.{◌≤◌, false, cond, ℤ, pos, negsuc, Float}
use Rattle.std.specs.Float.Ieee as Ieee
use Rattle.std.specs.Float.{nan, inf, fin}
use Rattle.std.specs.Float.Ieee.{neg}
use Rattle.scalar.specs.Operators.{◌⊖◌, ◌⊗◌, ◌⊘◌, bits, int}
use Rattle.limits.specs.Zero.{plus_zero}
use Rattle.scalar.specs.Constants.{ln2, ln2_high, ln2_low}
use Rattle.elementary.specs.Whole.{nearest_of}
use Rattle.series.specs.Series.{exp_series}

-- k = nearest of x / 3FE62E42FEFA39EF
unfoldable pub exp_count : Float → ℤ
exp_count x = nearest_of (x ⊘ ln2)

-- r = (x − k × 3FE62E42FEE00000) − k × 3DEA39EF35793C76
unfoldable pub exp_rest : Float → ℤ → Float
exp_rest x k = (x ⊖ int k ⊗ ln2_high) ⊖ int k ⊗ ln2_low

-- 2 to the k
abbrev pub pow2 : ℤ → Float
pow2 k = fin false 1 k

-- the k for which 2 to the k is a normal number: from -1022 to 1023
abbrev pub Scale : ℤ → Type 0
Scale (pos n) = n ≤ 1023
Scale (negsuc n) = n ≤ 1021

-- the series in r, times 2 to the k
unfoldable pub exp_main : Float → ℤ → Float
exp_main x k = exp_series (exp_rest x k) ⊗ pow2 k

-- above 709 +infinity, below −708 +0, NaN to NaN
unfoldable pub exp_of : Float → Float
exp_of x =
    cond (Ieee.lt (bits 0x4086280000000000) x) (inf false)
    (cond (Ieee.lt x (neg (bits 0x4086200000000000))) plus_zero
    (cond (Ieee.is_nan x) nan
    (exp_main x (exp_count x))))

-- 10 to the y is exp(y × 40026BB1BBB55516)
unfoldable pub pow10_of : Float → Float
pow10_of y = exp_of (y ⊗ bits 0x40026BB1BBB55516)
