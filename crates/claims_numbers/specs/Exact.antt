-- 02's Q-5: "Exact values are whole numbers after scaling by 2 to the 1074."
use Rattle.std.specs.Prelude.{◌≡◌, Bool, ℕ, ◌^◌, ℤ, nat_abs}
use Rattle.std.specs.Float.{fin, Format, binary64}
use Rattle.std.specs.Float.Ieee.Exact.{HasValue}
use Rattle.exact.specs.Scaled.{IsValue, scale, with_sign, scaled}

pub record ExactValues : Type 0 where
  -- "2 to the 1074"
  pub scaled_by : scale binary64 ≡ 2 ^ 1074
  -- every finite x of a format, whose sign is s, is scaled f x / scale f: in magnitude
  pub magnitude : (f : Format) (s : Bool) (m : ℕ) (e : ℤ) → IsValue f (fin s m e) → HasValue (fin s m e) s (nat_abs (scaled f (fin s m e))) (scale f)
  -- and in sign
  pub sign : (f : Format) (s : Bool) (m : ℕ) (e : ℤ) → IsValue f (fin s m e) → scaled f (fin s m e) ≡ with_sign s (nat_abs (scaled f (fin s m e)))
