-- 01's design request: its check, and the design of each kind, raw and by default.
use Rattle.std.specs.Prelude.{ℕ, ◌&&◌}
use Rattle.runs.specs.Default.{by_default}
use Rattle.cascade_theory.specs.Cascade.{CascadeRecord, blank_cascade}
use Rattle.cascade_theory.specs.Coefficients.{finite_coefficients}
use Rattle.fir_theory.specs.Fir.{TapsRecord, FirDesignRecord, finite_taps, blank_taps}
use Rattle.limits.specs.Limits.{max_taps}
use Rattle.design_checks.specs.Checks.{validate_params, validate_chebyshev, validate_band, validate_fir}
use Rattle.design_fir.specs.Fir.{fir_lp}
use Rattle.design_cascade.specs.Design.{CascadeDesignRecord}
use Rattle.design_cascade.specs.LowPass.{butterworth_lp, butterworth_hp, chebyshev1_lp, chebyshev2_lp}
use Rattle.design_cascade.specs.BandPass.{butterworth_bp}
use Rattle.design_request.specs.declared.DesignRequest.{DesignRequest}
use Rattle.design_request.specs.declared.DesignRequest.TheVariants.{LowPass, HighPass, BandPass, Chebyshev1, Chebyshev2, Fir}

-- the number that a check of the parameters draws, or 0; coefficients are not looked at
abbrev pub check_request : DesignRequest → ℕ
check_request (LowPass order cutoff rate) = validate_params cutoff rate order
check_request (HighPass order cutoff rate) = validate_params cutoff rate order
check_request (BandPass order low high rate) = validate_band low high rate order
check_request (Chebyshev1 order cutoff db rate) = validate_chebyshev cutoff db rate order
check_request (Chebyshev2 order cutoff db rate) = validate_chebyshev cutoff db rate order
check_request (Fir taps cutoff window) = validate_fir taps cutoff

-- a refusal number or 0, a cascade and a tap record
pub record DesignRecord : Type 0 where
  pub refusal : ℕ
  pub cascade : CascadeRecord
  pub filter : TapsRecord

-- the record not asked for is blank
abbrev pub of_cascade : CascadeDesignRecord → DesignRecord
of_cascade d = record { refusal = d.refusal; cascade = d.cascade; filter = blank_taps max_taps }

abbrev pub of_taps : FirDesignRecord → DesignRecord
of_taps m = record { refusal = m.refusal; cascade = blank_cascade; filter = m.filter }

-- the raw form
abbrev pub design_of : DesignRequest → DesignRecord
design_of (LowPass order cutoff rate) = of_cascade (butterworth_lp order cutoff rate)
design_of (HighPass order cutoff rate) = of_cascade (butterworth_hp order cutoff rate)
design_of (BandPass order low high rate) = of_cascade (butterworth_bp order low high rate)
design_of (Chebyshev1 order cutoff db rate) = of_cascade (chebyshev1_lp order cutoff db rate)
design_of (Chebyshev2 order cutoff db rate) = of_cascade (chebyshev2_lp order cutoff db rate)
design_of (Fir taps cutoff window) = of_taps (fir_lp taps cutoff window)

-- what is refused returns its number and both records blank
abbrev pub refused_design : ℕ → DesignRecord
refused_design n = record { refusal = n; cascade = blank_cascade; filter = blank_taps max_taps }

-- 02's Q-3: a design of either kind by default. The record not asked for is blank, so it has no coefficient
abbrev pub design_by_default : DesignRecord → DesignRecord
design_by_default =
    by_default (λ (d : DesignRecord). d.refusal) (λ (d : DesignRecord). finite_coefficients d.cascade && finite_taps d.filter) refused_design
