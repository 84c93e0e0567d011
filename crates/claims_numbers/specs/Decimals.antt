-- Decimals in request lines.
use Rattle.std.specs.Prelude.{ℕ, ◌^◌, ◌≡◌, false, List, ◌++◌, length, Some, Float}
use Rattle.std.specs.Float.{binary64}
use Rattle.ieee.specs.Nearest.{Nearest, fraction}
use Rattle.text_decimals.specs.Decimals.{value_after, decimal}

-- Digits before a point and digits after it, where they are accepted: the double nearest to the number that the digits write over the power
-- of ten that the places after the point make. A token with `-` is the negative of that.
pub record DecimalsAreNearest : Type 0 where
  pub at : (whole places : List ℕ) (x : Float) → decimal whole places ≡ Some x
      → Nearest binary64 (fraction (value_after 10 0 (whole ++ places)) (10 ^ length places)) false x
