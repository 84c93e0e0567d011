-- `fir::TapRecord::from_coeffs` meets its contract.
use mathlib.Core.Path.{refl, ap, ◌∙◌}
use Rattle.limits.specs.Limits.{max_taps}
use Rattle.runs.proofs.Default.{default-viewed}
use Rattle.fir_theory.specs.Fir.{FirDesignRecord, finite_taps, refused_taps, taps_by_default}
use Rattle.fir.specs.View.{taps_view, made_view}
use Rattle.fir.specs.declared.TapRecord.{TapRecord}
use Rattle.fir.proofs.TapRecord.from_coeffs.Goals as goal

pub returns : goal.returns
returns c =
    ap made_view c.by_default.ensures
    ∙ default-viewed made_view (λ (r : TapRecord). finite_taps (taps_view r)) (λ (m : FirDesignRecord). m.refusal)
    (λ (m : FirDesignRecord). finite_taps m.filter) (refused_taps max_taps) (λ r. refl) (λ r. refl) (λ n. refl) (λ n. refl) c.from_coeffs_raw.result
    ∙ ap (taps_by_default max_taps) c.from_coeffs_raw.ensures
