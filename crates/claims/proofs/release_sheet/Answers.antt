-- `claims::release_sheet` meets its contract: antt computes the whole table.
use mathlib.Core.Path.{refl}
use lib.Ieee.{add, sub, mul, div, neg, lt, le, is_nan, of_int, of_bits, to_bits}
use Rattle.runs.specs.Refusals.{order_refused}
use Rattle.runs.specs.Default.{by_default}
use Rattle.design_checks.specs.Checks.{not_positive, cutoff_refused, band_refused, validate_params, validate_band, validate_fir}
use Rattle.runs.specs.Runs.{not_all_finite, step, block}
use Rattle.ieee.specs.Sqrt.{sqrt_of}
use Rattle.fir_theory.specs.Fir.{pushed, next, held_of, clouding, sum, value, mark, check_taps, holding, from_coeffs}
use Rattle.design_cascade.specs.LowPass.{butterworth_lp}
use Rattle.design_cascade.specs.BandPass.{butterworth_bp}
use Rattle.design_fir.specs.Fir.{fir_lp}
use Rattle.design_poles.specs.Butterworth.{denominator_of, lp_biquad, hp_biquad, lp_first, hp_first}
use Rattle.claims.proofs.release_sheet.Goals as goal

pub returns : goal.returns
unfolding by_default butterworth_lp butterworth_bp fir_lp validate_params validate_band validate_fir order_refused not_positive cutoff_refused band_refused
    denominator_of lp_biquad hp_biquad lp_first hp_first sqrt_of step block pushed next held_of not_all_finite clouding sum value mark check_taps holding
    from_coeffs
    add sub mul div neg lt le is_nan of_int of_bits to_bits
returns c = record { numbered = λ cutoff window p q. refl; holds = λ cutoff window p q. refl; by_default = λ cutoff window. refl }
