-- What the checks leave.
use mathlib.Core.Path.{◌≡◌, refl}
use mathlib.Core.Bool.{Bool, true, false, cond}
use Prim.Native.Nat.{ℕ, ◌<◌, ◌≤◌}
use native.Mathlib.Omega.{arith}
use lib.Ieee.{Float}
use Rattle.runs.specs.Refusals.{invalid_order, order_refused}
use Rattle.runs.proofs.Laws.{good-order}
use Rattle.limits.specs.Limits.{max_order, max_band_order, max_taps}
use Rattle.design_checks.specs.Checks.{validate_params, validate_chebyshev, validate_band, validate_fir}

-- parameters that pass have a good order: it is tested first, whatever is tested after it
first-passed : (b : Bool) (rest : ℕ) → cond b invalid_order rest ≡ 0 → b ≡ false
first-passed true rest e = absurd (omega (arith, e))
first-passed false rest e = refl

pub good-params : (cutoff rate : Float) (n : ℕ) → validate_params cutoff rate n ≡ 0 → (0 < n) × (n ≤ max_order)
unfolding validate_params
good-params cutoff rate n e = good-order n max_order (first-passed (order_refused n max_order) _ e)

pub good-chebyshev : (cutoff db rate : Float) (n : ℕ) → validate_chebyshev cutoff db rate n ≡ 0 → (0 < n) × (n ≤ max_order)
unfolding validate_chebyshev
good-chebyshev cutoff db rate n e = good-order n max_order (first-passed (order_refused n max_order) _ e)

pub good-band : (low high rate : Float) (n : ℕ) → validate_band low high rate n ≡ 0 → (0 < n) × (n ≤ max_band_order)
unfolding validate_band
good-band low high rate n e = good-order n max_band_order (first-passed (order_refused n max_band_order) _ e)

pub good-fir : (n : ℕ) (cutoff : Float) → validate_fir n cutoff ≡ 0 → (0 < n) × (n ≤ max_taps)
unfolding validate_fir
good-fir n cutoff e = good-order n max_taps (first-passed (order_refused n max_taps) _ e)
