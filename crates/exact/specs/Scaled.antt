-- 02's Q-5: "Exact values are whole numbers after scaling by 2 to the 1074." It is said of any format: its smallest value above 0 is 2 ^ -low, and at
-- f64 low is 1074.
use Rattle.std.specs.Prelude.{Bool, true, false, ℕ, ◌*◌, ◌/◌, ◌^◌, T, ℤ, pos, neg_ℤ, nat_abs, ◌-ℤ◌, Float}
use Rattle.std.specs.Float.{nan, inf, fin, Format}
use Rattle.std.specs.Float.Ieee.{low, up, down, fits}

-- x is a value of the format
abbrev pub IsValue : Format → Float → Type 0
IsValue f x = T (fits f x)

-- what values are scaled by: 1 is this many smallest values
abbrev pub scale : Format → ℕ
scale f = 2 ^ low f

-- n with a sign, true for a minus
abbrev pub with_sign : Bool → ℕ → ℤ
with_sign false n = pos n
with_sign true n = neg_ℤ (pos n)

-- x * 2 ^ low, for a finite x of the format: how many smallest values it is, a whole number. An infinity and a NaN are no such number: 0 stands there.
unfoldable pub scaled : Format → Float → ℤ
scaled f nan = pos 0
scaled f (inf s) = pos 0
scaled f (fin s m e) = with_sign s (m * up e * scale f / down e)

-- |a - b|
abbrev pub distance : ℤ → ℤ → ℕ
distance a b = nat_abs (a -ℤ b)
