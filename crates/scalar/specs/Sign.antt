-- 01: "max(x, 0) is x where x > 0, else +0. The absolute value clears the sign bit."
use Rattle.std.specs.Prelude.{false, cond, Float}
use Rattle.std.specs.Float.Ieee as Ieee
use Rattle.std.specs.Float.{nan, inf, fin}
use Rattle.limits.specs.Zero.{plus_zero}

unfoldable pub abs_of : Float → Float
abs_of nan = nan
abs_of (inf s) = inf false
abs_of (fin s m e) = fin false m e

unfoldable pub max_zero_of : Float → Float
max_zero_of x = cond (Ieee.lt plus_zero x) x plus_zero
