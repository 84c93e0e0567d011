-- 02's Q-3: what a default form returns beside its raw form, for every raw result.
use Rattle.std.specs.Prelude.{◌≡◌, Bool, true, false, ℕ, Float}
use Rattle.limits.specs.Limits.{max_taps}
use Rattle.runs.specs.Refusals.{no_refusal, non_finite_coefficient}
use Rattle.cascade_theory.specs.Coefficients.{finite_coefficients}
use Rattle.fir_theory.specs.Fir.{FirDesignRecord, finite_taps, refused_taps, taps_by_default}
use Rattle.design_checks.specs.Checks.{validate_fir}
use Rattle.design_fir.specs.Fir.{fir_lp}
use Rattle.design_fir.specs.declared.WindowType.{WindowType}
use Rattle.design_fir.specs.declared.WindowType.TheVariants.{Rectangular}
use Rattle.design_cascade.specs.Design.{CascadeDesignRecord, refused_design, cascade_by_default}
use Rattle.design_request.specs.Request.{of_cascade, of_taps, design_by_default}

-- the three cases of a result, and what it means that the default form accepts
pub record Defaults {R : Type 0} (refusal : R → ℕ) (finite_in : R → Bool) (refused_by : ℕ → R) (form : R → R) (r : R) : Type 0 where
  -- the default form refuses as the raw one does, and returns the same record
  pub refused : (refusal r ≡ no_refusal → ⊥) → form r ≡ r
  -- or else by 25, with the blank record, where a coefficient is not finite
  pub not_finite : refusal r ≡ no_refusal → finite_in r ≡ false → form r ≡ refused_by non_finite_coefficient
  -- it accepts anything else, as the raw form returned it
  pub finite : refusal r ≡ no_refusal → finite_in r ≡ true → form r ≡ r
  -- so what it accepts is what the raw form returned, and all finite
  pub accepted : refusal (form r) ≡ no_refusal → (form r ≡ r) × (finite_in r ≡ true)

pub record DefaultForms : Type 0 where
  pub cascades : (d : CascadeDesignRecord)
      → Defaults (λ (d : CascadeDesignRecord). d.refusal) (λ (d : CascadeDesignRecord). finite_coefficients d.cascade) refused_design cascade_by_default d
  pub taps : (m : FirDesignRecord)
      → Defaults (λ (m : FirDesignRecord). m.refusal) (λ (m : FirDesignRecord). finite_taps m.filter) (refused_taps max_taps) (taps_by_default max_taps) m
  -- a request by default is the default form of its kind
  pub cascade_requests : (d : CascadeDesignRecord) → design_by_default (of_cascade d) ≡ of_cascade (cascade_by_default d)
  pub tap_requests : (m : FirDesignRecord) → design_by_default (of_taps m) ≡ of_taps (taps_by_default max_taps m)
  -- one tap with any window but Rectangular is refused by 25, whatever the cutoff, where the checks pass
  pub one_tap : (cutoff : Float) (window : WindowType) → (window ≡ Rectangular → ⊥) → validate_fir 1 cutoff ≡ no_refusal
      → taps_by_default max_taps (fir_lp 1 cutoff window) ≡ refused_taps max_taps non_finite_coefficient
