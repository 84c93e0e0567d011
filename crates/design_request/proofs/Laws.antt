-- A raw design's refusal is the number that its check gives; by default that number comes before 25. A request by default is the default form of its kind.
use mathlib.Core.Path.{◌≡◌, refl, sym, ap, ◌∙◌}
use mathlib.Core.Bool.{Bool, true, false, not, ◌&&◌, cond}
use mathlib.Core.Logic.{◌⊎◌, inl, inr}
use Prim.Native.Nat.{ℕ}
use lib.Dec.{eqb}
use borrow.Author.Tests.{eqb-true}
use Rattle.limits.specs.Limits.{max_taps}
use Rattle.runs.specs.Refusals.{no_refusal, non_finite_coefficient}
use Rattle.runs.specs.Runs.{not_all_finite}
use Rattle.runs.specs.Default.{by_default}
use Rattle.runs.proofs.Default.{refused-stays, of_either}
use Rattle.cascade_theory.specs.Cascade.{CascadeRecord}
use Rattle.cascade_theory.specs.Coefficients.{coefficients_of_sections, used_coefficients, finite_coefficients}
use Rattle.fir_theory.specs.Fir.{FirDesignRecord, finite_taps, refused_taps, taps_by_default}
use Rattle.design_checks.specs.Checks.{validate_params, validate_chebyshev, validate_band, validate_fir}
use Rattle.design_cascade.specs.Design.{CascadeDesignRecord, accepted, refused_design, unless_refused, cascade_by_default}
use Rattle.design_cascade.specs.LowPass.{butterworth_lp, butterworth_hp, chebyshev1_lp, chebyshev2_lp}
use Rattle.design_cascade.specs.BandPass.{butterworth_bp}
use Rattle.design_fir.specs.Fir.{fir_lp}
use Rattle.design_request.specs.Request.{DesignRecord, check_request, of_cascade, of_taps, design_of, refused_design as refused_by, design_by_default}
use Rattle.design_request.specs.declared.DesignRequest.{DesignRequest}
use Rattle.design_request.specs.declared.DesignRequest.TheVariants.{LowPass, HighPass, BandPass, Chebyshev1, Chebyshev2, Fir}

-- y where the check's number v is 0, else z
chosen : {A : Type 0} (refusal : A → ℕ) (v : ℕ) (y z : A) → refusal y ≡ 0 → refusal z ≡ v → refusal (cond (eqb v 0) y z) ≡ v
chosen refusal v y z r s = go (eqb v 0) refl
  where
    go : (b : Bool) → eqb v 0 ≡ b → refusal (cond b y z) ≡ v
    go true e = r ∙ sym (eqb-true v 0 e)
    go false e = s

of-cascade : (v : ℕ) (c : CascadeRecord) → (unless_refused v c).refusal ≡ v
of-cascade v c = chosen (λ (d : CascadeDesignRecord). d.refusal) v (accepted c) (refused_design v) refl refl

pub refused-by-check : (r : DesignRequest) → (design_of r).refusal ≡ check_request r
unfolding butterworth_lp butterworth_hp chebyshev1_lp chebyshev2_lp butterworth_bp fir_lp
refused-by-check (LowPass order cutoff rate) = of-cascade (validate_params cutoff rate order) _
refused-by-check (HighPass order cutoff rate) = of-cascade (validate_params cutoff rate order) _
refused-by-check (BandPass order low high rate) = of-cascade (validate_band low high rate order) _
refused-by-check (Chebyshev1 order cutoff db rate) = of-cascade (validate_chebyshev cutoff db rate order) _
refused-by-check (Chebyshev2 order cutoff db rate) = of-cascade (validate_chebyshev cutoff db rate order) _
refused-by-check (Fir taps cutoff window) = chosen (λ (m : FirDesignRecord). m.refusal) (validate_fir taps cutoff) _ _ refl refl

-- ---- by default
pub checks-come-first : (r : DesignRequest) → (check_request r ≡ no_refusal → ⊥) → (design_by_default (design_of r)).refusal ≡ check_request r
checks-come-first r h =
    ap (λ (d : DesignRecord). d.refusal) (refused-stays _ _ _ (design_of r) (λ e. h (sym (refused-by-check r) ∙ e))) ∙ refused-by-check r

pub or-else : (r : DesignRequest) → check_request r ≡ no_refusal → ((design_by_default (design_of r)).refusal ≡ no_refusal)
    ⊎ ((design_by_default (design_of r)).refusal ≡ non_finite_coefficient)
or-else r h = of_either _ _ _ (design_of r) (λ (d : DesignRecord). (d.refusal ≡ no_refusal) ⊎ (d.refusal ≡ non_finite_coefficient))
    (inl (refused-by-check r ∙ h)) (inr refl)

-- the record not asked for has no coefficient
pub cascade-by-default : (d : CascadeDesignRecord) → design_by_default (of_cascade d) ≡ of_cascade (cascade_by_default d)
unfolding by_default finite_taps not_all_finite
cascade-by-default d = go (eqb d.refusal no_refusal) (finite_coefficients d.cascade)
  where
    go : (b f : Bool) → cond (b && not (f && true)) (refused_by non_finite_coefficient) (of_cascade d)
        ≡ of_cascade (cond (b && not f) (refused_design non_finite_coefficient) d)
    go true true = refl
    go true false = refl
    go false f = refl

pub taps-by-default : (m : FirDesignRecord) → design_by_default (of_taps m) ≡ of_taps (taps_by_default max_taps m)
unfolding by_default finite_coefficients used_coefficients coefficients_of_sections not_all_finite
taps-by-default m = go (eqb m.refusal no_refusal) (finite_taps m.filter)
  where
    go : (b f : Bool) → cond (b && not f) (refused_by non_finite_coefficient) (of_taps m)
        ≡ of_taps (cond (b && not f) (refused_taps max_taps non_finite_coefficient) m)
    go true true = refl
    go true false = refl
    go false f = refl
