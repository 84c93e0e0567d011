-- 01's first table: when the refusal numbers 2 to 4 are given (the test of 1 stands in `runs`), and its order of checks. Comparisons with a NaN are
-- false, so its tests stand by themselves.
use Rattle.std.specs.Prelude.{ℕ, Bool, cond, ◌||◌, Float}
use Rattle.std.specs.Float.Ieee.{is_nan, le}
use Rattle.scalar.specs.Operators.{◌⊗◌}
use Rattle.limits.specs.Zero.{plus_zero}
use Rattle.scalar.specs.Constants.{half}
use Rattle.runs.specs.Refusals.{no_refusal, invalid_order, invalid_frequency, invalid_sample_rate, invalid_ripple, order_refused}
use Rattle.limits.specs.Limits.{max_order, max_band_order, max_taps}

-- NaN or at most 0
unfoldable pub not_positive : Float → Bool
not_positive x = is_nan x || le x plus_zero

-- 3: rate NaN or at most 0; 4: decibels NaN or at most 0
abbrev pub rate_refused : Float → Bool
rate_refused r = not_positive r

abbrev pub ripple_refused : Float → Bool
ripple_refused db = not_positive db

-- 2: cutoff NaN, at most 0, or at least the limit: rate × 0.5, and 0.5 for the FIR
unfoldable pub cutoff_refused : Float → Float → Bool
cutoff_refused f limit = is_nan f || (le f plus_zero || le limit f)

-- 2, band pass: an edge NaN, low at most 0, high at most low, high at least rate × 0.5
unfoldable pub band_refused : Float → Float → Float → Bool
band_refused low high r = is_nan low || (is_nan high || (le low plus_zero || (le high low || le (r ⊗ half) high)))

-- ---- the order of checks
-- 1, 3, 2, and what comes after them
abbrev pub checks_then : Float → Float → ℕ → ℕ → ℕ
checks_then cutoff rate n next =
    cond (order_refused n max_order) invalid_order
    (cond (rate_refused rate) invalid_sample_rate
    (cond (cutoff_refused cutoff (rate ⊗ half)) invalid_frequency next))

-- low pass and high pass: 1, 3, 2
unfoldable pub validate_params : Float → Float → ℕ → ℕ
validate_params cutoff rate n = checks_then cutoff rate n no_refusal

-- Chebyshev: 1, 3, 2, 4
unfoldable pub validate_chebyshev : Float → Float → Float → ℕ → ℕ
validate_chebyshev cutoff db rate n = checks_then cutoff rate n (cond (ripple_refused db) invalid_ripple no_refusal)

-- band pass: 1, 2, 3
unfoldable pub validate_band : Float → Float → Float → ℕ → ℕ
validate_band low high rate n =
    cond (order_refused n max_band_order) invalid_order
    (cond (band_refused low high rate) invalid_frequency
    (cond (rate_refused rate) invalid_sample_rate no_refusal))

-- FIR: 1, 2, the limit of its cutoff being 0.5
unfoldable pub validate_fir : ℕ → Float → ℕ
validate_fir n cutoff =
    cond (order_refused n max_taps) invalid_order
    (cond (cutoff_refused cutoff half) invalid_frequency no_refusal)
