-- 000's cutoff and angles, and the sections of its low pass and high pass.
use Rattle.std.specs.Prelude.{ℕ, ◌+◌, ◌-◌, ◌*◌, Float}
use Rattle.scalar.specs.Operators.{◌⊗◌, ◌⊘◌, nat}
use Rattle.scalar.specs.Constants.{pi}
use Rattle.elementary.specs.Trigonometric.{sin_of, cos_of, tan_of}
use Rattle.cascade_theory.specs.Section.{SectionRecord}
use Rattle.design_poles.specs.Butterworth.{lp_biquad, hp_biquad}

-- k = tan((PI × cutoff)/rate)
unfoldable pub warped : Float → Float → Float
warped cutoff rate = tan_of ((pi ⊗ cutoff) ⊘ rate)

-- the angle of pair m of order N: PI × ((2(m + 1) + N − 1)/(2N))
unfoldable pub angle_of : ℕ → ℕ → Float
angle_of n m = pi ⊗ (nat (2 * (m + 1) + n - 1) ⊘ nat (2 * n))

-- the section of pair m: its pole has σ = cos and ω = sin of the angle
unfoldable pub lp_pair : ℕ → ℕ → Float → SectionRecord
lp_pair n m k = lp_biquad (cos_of (angle_of n m)) (sin_of (angle_of n m)) k

unfoldable pub hp_pair : ℕ → ℕ → Float → SectionRecord
hp_pair n m k = hp_biquad (cos_of (angle_of n m)) (sin_of (angle_of n m)) k
