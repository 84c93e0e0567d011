-- 01 "Tap record": one tap with any window but Rectangular is a NaN, so by default (02's Q-3) it is refused by 25.
use mathlib.Core.Path.{◌≡◌, refl, ap, ◌∙◌}
use mathlib.Core.List.{[], ◌∷◌}
use lib.Ieee.{Float, nan, add, sub, mul, div, le, lt, of_int, of_bits}
use borrow.Author.Tests.{eq-eqb}
use Rattle.scalar.specs.Sign.{abs_of}
use Rattle.scalar.proofs.NaN.{mul-nan}
use Rattle.scalar.specs.Operators.{nat, ◌⊖◌, ◌⊗◌}
use Rattle.scalar.specs.Constants.{two, half, pi}
use Rattle.elementary.specs.Trigonometric.{turnable, cos_of}
use Rattle.limits.specs.Limits.{max_taps}
use Rattle.lists.specs.Lists.{up_to}
use Rattle.runs.specs.Refusals.{no_refusal, non_finite_coefficient}
use Rattle.runs.specs.Runs.{not_all_finite}
use Rattle.runs.proofs.Default.{not_finite}
use Rattle.fir_theory.specs.Fir.{finite_taps, holding, refused_taps, taps_by_default}
use Rattle.design_checks.specs.Checks.{validate_fir}
use Rattle.design_fir.specs.Fir.{weight_of, sinc_of, tap_of, total_from, normalised_by, fir_taps, fir_lp}
use Rattle.design_fir.specs.declared.WindowType.{WindowType}
use Rattle.design_fir.specs.declared.WindowType.TheVariants.{Rectangular, Hamming, Hanning, Blackman}

weight : (w : WindowType) → (w ≡ Rectangular → ⊥) → weight_of w (nat 0) (nat 1) (two ⊗ pi) ≡ nan
unfolding weight_of cos_of turnable abs_of add sub mul div le of_int of_bits
weight Rectangular h = absurd (h refl)
weight Hamming h = refl
weight Hanning h = refl
weight Blackman h = refl

one-tap : (w : WindowType) (cutoff : Float) → (w ≡ Rectangular → ⊥) → tap_of w 1 cutoff 0 ≡ nan
unfolding tap_of
one-tap w cutoff h = let ideal = sinc_of cutoff (nat 0 ⊖ nat 0 ⊗ half) in ap (λ (x : Float). ideal ⊗ x) (weight w h) ∙ mul-nan ideal

one-taps : (w : WindowType) (cutoff : Float) → (w ≡ Rectangular → ⊥) → fir_taps w 1 cutoff ≡ nan ∷ []
unfolding fir_taps up_to normalised_by total_from abs_of add lt of_bits
one-taps w cutoff h = rw (one-tap w cutoff h)

pub one-tap-refused : (cutoff : Float) (w : WindowType) → (w ≡ Rectangular → ⊥) → validate_fir 1 cutoff ≡ no_refusal
    → taps_by_default max_taps (fir_lp 1 cutoff w) ≡ refused_taps max_taps non_finite_coefficient
unfolding fir_lp finite_taps holding not_all_finite
one-tap-refused cutoff w h v = not_finite _ _ _ (fir_lp 1 cutoff w) (rw (eq-eqb (validate_fir 1 cutoff) no_refusal v))
    (rw (eq-eqb (validate_fir 1 cutoff) no_refusal v, one-taps w cutoff h))
