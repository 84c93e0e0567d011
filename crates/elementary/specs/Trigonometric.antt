-- 01's sin, cos and tan.
use Rattle.std.specs.Prelude.{ℕ, zero, suc, Bool, cond, ℤ, Float}
use Rattle.std.specs.Float.Ieee as Ieee
use Rattle.std.specs.Float.{nan}
use Rattle.std.specs.Float.Ieee.{neg}
use Rattle.scalar.specs.Operators.{◌⊖◌, ◌⊗◌, ◌⊘◌, bits, int}
use Rattle.scalar.specs.Sign.{abs_of}
use Rattle.elementary.specs.Whole.{nearest_of, mod4}
use Rattle.series.specs.Series.{sin_rest, cos_rest}
use Rattle.elementary.specs.declared.trigonometric.Angle.{Angle}

-- q = nearest of x × 3FE45F306DC9C883
unfoldable pub turns : Float → ℤ
turns x = nearest_of (x ⊗ bits 0x3FE45F306DC9C883)

-- r = (x − q × 3FF921FB54400000) − q × 3DD0B4611A626331
unfoldable pub rest_of : Float → ℤ → Float
rest_of x q = (x ⊖ int q ⊗ bits 0x3FF921FB54400000) ⊖ int q ⊗ bits 0x3DD0B4611A626331

unfoldable pub reduced_of : Float → Angle
reduced_of x = record { quadrant = mod4 (turns x); rest = rest_of x (turns x) }

-- By q modulo 4 (0, 1, 2, 3): sin is S, C, −S, −C
unfoldable pub sin_at : ℕ → Float → Float
sin_at zero r = sin_rest r
sin_at (suc zero) r = cos_rest r
sin_at (suc (suc zero)) r = neg (sin_rest r)
sin_at (suc (suc (suc n))) r = neg (cos_rest r)

-- cos is C, −S, −C, S
unfoldable pub cos_at : ℕ → Float → Float
cos_at zero r = cos_rest r
cos_at (suc zero) r = neg (sin_rest r)
cos_at (suc (suc zero)) r = neg (cos_rest r)
cos_at (suc (suc (suc n))) r = sin_rest r

abbrev pub sin_in : Angle → Float
sin_in a = sin_at a.quadrant a.rest

abbrev pub cos_in : Angle → Float
cos_in a = cos_at a.quadrant a.rest

-- not finite or magnitude above 128 gives NaN
unfoldable pub turnable : Float → Bool
turnable x = Ieee.le (abs_of x) (bits 0x4060000000000000)

unfoldable pub sin_of : Float → Float
sin_of x = cond (turnable x) (sin_in (reduced_of x)) nan

unfoldable pub cos_of : Float → Float
cos_of x = cond (turnable x) (cos_in (reduced_of x)) nan

unfoldable pub tan_of : Float → Float
tan_of x = sin_of x ⊘ cos_of x
