-- The distance of two integers, and how far one is off the other.
use mathlib.Core.Bool.{Bool, true, false}
use Prim.Native.Nat.{ℕ, ◌+◌, ◌*◌, ◌≤◌}
use native.Mathlib.Nat.{mul-le-mul_right}
use native.Mathlib.Omega.{arith}
use lib.IntN.{ℤ, pos, neg_ℤ, ◌+ℤ◌, ◌-ℤ◌, ◌*ℤ◌}
use Rattle.ieee.specs.Arithmetic.{gain, loss}
use Rattle.exact.specs.Scaled.{with_sign, distance}
use Rattle.exact.proofs.Whole.{plus, minus, Is, add_is, neg_is, times-is, abs-most, abs-between, sign-plus, sign-minus, sign-times}

-- ---- a distance by the parts of the two
difference-is : (u v : ℤ) → Is (u -ℤ v) (plus u + minus v) (minus u + plus v)
difference-is u v = omega (arith, neg_is v, add_is u (neg_ℤ v))

module _ (u v : ℤ) where
  apart : (e : ℕ) → plus u + minus v ≤ minus u + plus v + e → minus u + plus v ≤ plus u + minus v + e → distance u v ≤ e
  apart e h g = let d = difference-is u v in
      abs-most (u -ℤ v) e (omega arith) (omega arith)

  above : plus u + minus v ≤ minus u + plus v + distance u v
  above = let b = abs-between (u -ℤ v) in
      omega (arith, difference-is u v)

  below : minus u + plus v ≤ plus u + minus v + distance u v
  below = let b = abs-between (u -ℤ v) in
      omega (arith, difference-is u v)

-- two numbers of one sign
pub distance-sign : (s : Bool) (a b d e : ℕ) → a * d ≤ b + e → b ≤ a * d + e → distance (with_sign s a *ℤ pos d) (with_sign s b) ≤ e
distance-sign s a b d e h g =
    let c = a * d in
    rw (sign-times s a d)
    (apart (with_sign s c) (with_sign s b) e (rw (sign-plus s c, sign-plus s b, sign-minus s c, sign-minus s b) (over s))
    (rw (sign-plus s c, sign-plus s b, sign-minus s c, sign-minus s b) (under s)))
  where
    over : (s : Bool) → gain s (a * d) + loss s b ≤ loss s (a * d) + gain s b + e
    over true = omega arith
    over false = omega arith

    under : (s : Bool) → loss s (a * d) + gain s b ≤ gain s (a * d) + loss s b + e
    under true = omega arith
    under false = omega arith

-- ---- u is off v by at most e / K
abbrev pub OffBy : ℕ → ℤ → ℤ → ℕ → Type 0
OffBy K u v e = distance u v * K ≤ e

module _ (K : ℕ) where
  pub off_self : (u : ℤ) → OffBy K u u 0
  off_self u = omega (arith, mul-le-mul_right K (apart u u 0 (omega arith) (omega arith)))

  pub off-through : (u v w : ℤ) {a b : ℕ} → OffBy K u v a → OffBy K v w b → OffBy K u w (a + b)
  off-through u v w h g = omega (arith, h, g, mul-le-mul_right K through)
    where
      through : distance u w ≤ distance u v + distance v w
      through = apart u w (distance u v + distance v w) (omega (arith, above u v, above v w)) (omega (arith, below u v, below v w))

  -- with the same number added to both
  pub off-add : (u v x : ℤ) {a : ℕ} → OffBy K u v a → OffBy K (u +ℤ x) (v +ℤ x) a
  off-add u v x h = omega (arith, h, mul-le-mul_right K beside)
    where
      beside : distance (u +ℤ x) (v +ℤ x) ≤ distance u v
      beside = apart (u +ℤ x) (v +ℤ x) (distance u v) (omega (arith, above u v, add_is u x, add_is v x)) (omega (arith, below u v, add_is u x, add_is v x))

  pub off-times : (u v : ℤ) (d : ℕ) {a : ℕ} → OffBy K u v a → OffBy K (u *ℤ pos d) (v *ℤ pos d) (a * d)
  off-times u v d h = omega (arith, mul-le-mul_right d h, mul-le-mul_right K multiple)
    where
      multiple : distance (u *ℤ pos d) (v *ℤ pos d) ≤ distance u v * d
      multiple =
          apart (u *ℤ pos d) (v *ℤ pos d) (distance u v * d) (omega (arith, times-is u d, times-is v d, mul-le-mul_right d (above u v)))
          (omega (arith, times-is u d, times-is v d, mul-le-mul_right d (below u v)))
