-- 01 "Forgetting rule": what an accepted design, set of ready-made taps or reset returns is fresh, in the raw and in the default form.
use Rattle.std.specs.Prelude.{◌≡◌, true, List, ℕ, Float}
use Rattle.std.specs.Float.{binary64}
use Rattle.runs.specs.Runs.{reset}
use Rattle.cascade_theory.specs.Cascade.{CascadeRecord, cascade}
use Rattle.cascade.specs.View.{FreshCascade}
use Rattle.fir_theory.specs.Fir.{TapsRecord, FirDesignRecord, fir, from_coeffs, taps_by_default}
use Rattle.limits.specs.Limits.{max_taps}
use Rattle.fir.specs.View.{FreshTaps}
use Rattle.design_cascade.specs.LowPass.{butterworth_lp, butterworth_hp, chebyshev1_lp, chebyshev2_lp}
use Rattle.design_cascade.specs.BandPass.{butterworth_bp}
use Rattle.design_fir.specs.Fir.{fir_lp}
use Rattle.design_fir.specs.declared.WindowType.{WindowType}
use Rattle.runs.specs.Refusals.{no_refusal}
use Rattle.design_cascade.specs.Design.{CascadeDesignRecord, cascade_by_default}
use Rattle.c_layout.specs.Layout.{cascade_at, cascade_fits}
use Rattle.c_calls.specs.Kinds.{taps_at, taps_fit}
use Rattle.c_designs.specs.Designs.{design_call, TapsStoredRecord, made_call, fir_call}

-- of what the raw form returned, and of what the default form makes of it (02's Q-3)
pub record CascadeIsFresh (d : CascadeDesignRecord) : Type 0 where
  pub raw : d.refusal ≡ no_refusal → FreshCascade d.cascade
  pub by_default : (cascade_by_default d).refusal ≡ no_refusal → FreshCascade (cascade_by_default d).cascade

pub record TapsAreFresh (m : FirDesignRecord) : Type 0 where
  pub raw : m.refusal ≡ no_refusal → FreshTaps m.filter
  pub by_default : (taps_by_default max_taps m).refusal ≡ no_refusal → FreshTaps (taps_by_default max_taps m).filter

pub record AcceptedIsFresh : Type 0 where
  pub low_pass : (n : ℕ) (cutoff rate : Float) → CascadeIsFresh (butterworth_lp n cutoff rate)
  pub high_pass : (n : ℕ) (cutoff rate : Float) → CascadeIsFresh (butterworth_hp n cutoff rate)
  pub chebyshev_i : (n : ℕ) (cutoff db rate : Float) → CascadeIsFresh (chebyshev1_lp n cutoff db rate)
  pub chebyshev_ii : (n : ℕ) (cutoff db rate : Float) → CascadeIsFresh (chebyshev2_lp n cutoff db rate)
  pub band_pass : (n : ℕ) (low high rate : Float) → CascadeIsFresh (butterworth_bp n low high rate)
  pub fir_low_pass : (n : ℕ) (cutoff : Float) (window : WindowType) → TapsAreFresh (fir_lp n cutoff window)
  pub ready_made : (taps : List Float) → TapsAreFresh (from_coeffs max_taps taps)
  pub cascade_reset : (c : CascadeRecord) → (reset (cascade binary64) c).refusal ≡ 0 → FreshCascade (reset (cascade binary64) c).state
  pub fir_reset : (r : TapsRecord) → (reset (fir max_taps binary64) r).refusal ≡ 0 → FreshTaps (reset (fir max_taps binary64) r).state

-- ---- through the C library: what an accepted call that makes a filter leaves in the slices fits, and is fresh. Each premise is the call's
-- contract, word for word.
abbrev pub CascadeMade : CascadeDesignRecord → Type 0
CascadeMade d = (numbers numbers' : List Float) (counts counts' : List ℕ) → record { refusal = no_refusal; numbers = numbers'; counts = counts' }
    ≡ design_call d numbers counts
    → (cascade_fits numbers' counts' ≡ true) × FreshCascade (cascade_at numbers' counts')

abbrev pub TapsMade : (List Float → List Float → List ℕ → TapsStoredRecord) → Type 0
TapsMade call = (taps taps' samples samples' : List Float) (counts counts' : List ℕ)
    → record { refusal = no_refusal; taps = taps'; samples = samples'; counts = counts' } ≡ call taps samples counts
    → (taps_fit taps' samples' counts' ≡ true) × FreshTaps (taps_at taps' samples' counts')

-- in both forms; of taps, `call` is the C call over what a form makes of the raw result
pub record CascadeIsMade (d : CascadeDesignRecord) : Type 0 where
  pub raw : CascadeMade d
  pub by_default : CascadeMade (cascade_by_default d)

pub record TapsAreMade (call : (FirDesignRecord → FirDesignRecord) → List Float → List Float → List ℕ → TapsStoredRecord) : Type 0 where
  pub raw : TapsMade (call (λ (m : FirDesignRecord). m))
  pub by_default : TapsMade (call (taps_by_default max_taps))

pub record CMadeIsFresh : Type 0 where
  pub low_pass : (n : ℕ) (cutoff rate : Float) → CascadeIsMade (butterworth_lp n cutoff rate)
  pub high_pass : (n : ℕ) (cutoff rate : Float) → CascadeIsMade (butterworth_hp n cutoff rate)
  pub chebyshev_i : (n : ℕ) (cutoff db rate : Float) → CascadeIsMade (chebyshev1_lp n cutoff db rate)
  pub chebyshev_ii : (n : ℕ) (cutoff db rate : Float) → CascadeIsMade (chebyshev2_lp n cutoff db rate)
  pub band_pass : (n : ℕ) (low high rate : Float) → CascadeIsMade (butterworth_bp n low high rate)
  pub fir_low_pass : (n : ℕ) (cutoff : Float) (window : ℕ) → TapsAreMade (λ form taps samples counts.
      fir_call taps samples counts (λ w. form (fir_lp n cutoff w)) window)
  pub ready_made : (coeffs : List Float) → TapsAreMade (λ form taps samples counts. made_call taps samples counts (form (from_coeffs max_taps coeffs)))
