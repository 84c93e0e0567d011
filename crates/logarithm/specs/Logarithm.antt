-- 01's ln.
use Rattle.std.specs.Prelude.{◌-◌, ◌*◌, ◌<◌, ◌≤◌, true, false, cond, T, pos, ◌+ℤ◌, Float}
use Rattle.std.specs.Float.Ieee as Ieee
use Rattle.std.specs.Float.{nan, inf, fin}
use Rattle.std.specs.Float.Ieee.{size, minus, up, down}
use Rattle.std.specs.Float.Ieee.Exact.{HasValue}
use Rattle.std.specs.Float.Ieee.Positive.{num, den, positive}
use Rattle.scalar.specs.Operators.{◌⊕◌, ◌⊖◌, ◌⊗◌, ◌⊘◌, bits, int}
use Rattle.limits.specs.Zero.{plus_zero}
use Rattle.scalar.specs.Constants.{one, two, half, ln2_high, ln2_low}
use Rattle.series.specs.Series.{ln_series}
use Rattle.logarithm.specs.declared.Parts.{Parts}

-- x = m × 2^e with 1 ≤ m < 2: of M * 2 ^ E with M of n digits, m is M / 2 ^ (n - 1) and e is E + (n - 1)
unfoldable pub parts_of : Float → Parts
parts_of nan = record { m = nan; e = pos 0 }
parts_of (inf s) = record { m = inf s; e = pos 0 }
parts_of (fin s m e) = record { m = fin s m (minus 0 (size m - 1)); e = e +ℤ pos (size m - 1) }

-- The same without digits: p's m is above 0 and, as the fraction num / den, 1 ≤ m < 2; x has the sign plus and is m × 2^e in size.
pub record Splits (x : Float) (p : Parts) : Type 0 where
  pub above : T (positive p.m)
  pub least : den p.m ≤ num p.m
  pub most : num p.m < 2 * den p.m
  pub value : HasValue x false (num p.m * up p.e) (den p.m * down p.e)

-- m halved and e raised by 1 where m > 3FF6A09E667F3BCD
unfoldable pub centred : Parts → Parts
centred p = cond (Ieee.lt (bits 0x3FF6A09E667F3BCD) p.m) (record { m = p.m ⊗ half; e = p.e +ℤ pos 1 }) p

-- f = (m − 1)/(m + 1)
unfoldable pub ln_frac : Float → Float
ln_frac m = (m ⊖ one) ⊘ (m ⊕ one)

-- with s = f × f: e × 3FE62E42FEE00000 + ((2 × f) × P + e × 3DEA39EF35793C76)
unfoldable pub ln_main : Parts → Float
ln_main p =
    let f = ln_frac p.m in
    int p.e ⊗ ln2_high ⊕ ((two ⊗ f) ⊗ ln_series (f ⊗ f) ⊕ int p.e ⊗ ln2_low)

-- NaN or below 0 NaN, 0 −infinity, +infinity itself
unfoldable pub ln_of : Float → Float
ln_of x =
    cond (Ieee.is_nan x) nan
    (cond (Ieee.lt x plus_zero) nan
    (cond (Ieee.eq x plus_zero) (inf true)
    (cond (Ieee.eq x (inf false)) (inf false)
    (ln_main (centred (parts_of x))))))
