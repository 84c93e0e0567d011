-- What is accepted by default is what the raw form returned, so it is fresh where that is.
use mathlib.Core.Path.{◌≡◌, refl, sym, ap, ◌∙◌}
use Rattle.limits.specs.Limits.{max_taps}
use Rattle.runs.specs.Refusals.{no_refusal}
use Rattle.runs.proofs.Default.{accepted-raw}
use Rattle.cascade.specs.View.{FreshCascade}
use Rattle.fir.specs.View.{FreshTaps}
use Rattle.fir_theory.specs.Fir.{FirDesignRecord, taps_by_default}
use Rattle.design_cascade.specs.Design.{CascadeDesignRecord, cascade_by_default}
use Rattle.claims.specs.Fresh.{CascadeIsFresh, TapsAreFresh}

pub cascade-raw : (d : CascadeDesignRecord) → (cascade_by_default d).refusal ≡ no_refusal → cascade_by_default d ≡ d
cascade-raw d h = (accepted-raw _ _ _ d (λ n. refl) h).0

pub taps-raw : (m : FirDesignRecord) → (taps_by_default max_taps m).refusal ≡ no_refusal → taps_by_default max_taps m ≡ m
taps-raw m h = (accepted-raw _ _ _ m (λ n. refl) h).0

pub cascade-fresh : (d : CascadeDesignRecord) → (d.refusal ≡ no_refusal → FreshCascade d.cascade) → CascadeIsFresh d
cascade-fresh d f = record { raw = f; by_default = λ h. let e = cascade-raw d h in rw e (f (ap (λ (r : CascadeDesignRecord). r.refusal) (sym e) ∙ h)) }

pub taps-fresh : (m : FirDesignRecord) → (m.refusal ≡ no_refusal → FreshTaps m.filter) → TapsAreFresh m
taps-fresh m f = record { raw = f; by_default = λ h. let e = taps-raw m h in rw e (f (ap (λ (r : FirDesignRecord). r.refusal) (sym e) ∙ h)) }
