-- 01: "'Nearest' means nearest whole number, ties to even, a zero being +0." A whole number has no sign of zero, and as a float its zero is +0.
use Rattle.std.specs.Prelude.{◌≡◌, ℕ, ◌+◌, ◌-◌, ◌*◌, ◌%◌, ◌≤◌, Bool, cond, ◌⊎◌, ℤ, pos, negsuc, neg_ℤ, Float}
use Rattle.std.specs.Float.{nan, inf, fin}
use Rattle.std.specs.Float.Ieee.{up, down}
use Rattle.std.specs.Float.Ieee.Nearest.{closest}

-- n with the sign s, true for a minus
abbrev pub signed : Bool → ℕ → ℤ
signed s n = cond s (neg_ℤ (pos n)) (pos n)

-- The whole number nearest to m * 2 ^ e, which is the fraction m * up e / down e: `closest` takes its whole part, or the next number by how twice
-- the remainder compares with the divisor. No rule asks for a NaN's or an infinity's.
unfoldable pub nearest_of : Float → ℤ
nearest_of nan = pos 0
nearest_of (inf s) = pos 0
nearest_of (fin s m e) = signed s (closest (m * up e) (down e))

-- The same without a way to compute it: z is n with the sign of x, and n is at most 1/2 away from |x| = a / b, and even where it is just 1/2 away.
pub record NearestWhole (s : Bool) (a b : ℕ) (z : ℤ) : Type 0 where
  pub n : ℕ
  pub whole : z ≡ signed s n
  pub above : 2 * a ≤ 2 * (n * b) + b
  pub below : 2 * (n * b) ≤ 2 * a + b
  pub even : (2 * a ≡ 2 * (n * b) + b) ⊎ (2 * (n * b) ≡ 2 * a + b) → n % 2 ≡ 0

-- z modulo 4, never negative: -(n + 1) is 3 - n modulo 4
abbrev pub mod4 : ℤ → ℕ
mod4 (pos n) = n % 4
mod4 (negsuc n) = 3 - n % 4

-- The magnitude is at most n. `nearest` asks it of its argument, so that the answer is a machine's number.
unfoldable pub Within : ℕ → Float → Type 0
Within n nan = ⊥
Within n (inf s) = ⊥
Within n (fin s m e) = m * up e ≤ n * down e
