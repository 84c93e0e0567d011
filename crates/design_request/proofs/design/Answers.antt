-- `design_request::design` meets its contract: the record that was not asked for has no coefficient.
use mathlib.Core.Path.{◌≡◌, refl, ap, ◌∙◌}
use mathlib.Core.Bool.{◌&&◌, and-true}
use Rattle.runs.specs.Refusals.{no_refusal}
use Rattle.runs.specs.Runs.{not_all_finite}
use Rattle.runs.proofs.Default.{default-viewed}
use Rattle.cascade.specs.View.{cascade_view}
use Rattle.cascade_theory.specs.Coefficients.{coefficients_of_sections, used_coefficients, finite_coefficients}
use Rattle.fir_theory.specs.Fir.{finite_taps}
use Rattle.std.specs.Prelude.{Ok}
use Rattle.design_request.specs.Request.{DesignRecord, refused_design, design_by_default}
use Rattle.design_request.specs.View.{finite_in, designed_view}
use Rattle.design_request.specs.declared.Designed.{Designed}
use Rattle.design_request.specs.declared.Designed.TheVariants.{Cascade, Fir}
use Rattle.design_request.proofs.design.Goals as goal

accepted : (d : Designed) → (designed_view (Ok d)).refusal ≡ no_refusal
accepted (Cascade c) = refl
accepted (Fir r) = refl

finite : (d : Designed) → (finite_coefficients (designed_view (Ok d)).cascade && finite_taps (designed_view (Ok d)).filter) ≡ finite_in d
unfolding finite_taps finite_coefficients used_coefficients coefficients_of_sections not_all_finite
finite (Cascade c) = and-true (finite_coefficients (cascade_view c))
finite (Fir r) = refl

pub returns : goal.returns
returns c =
    ap designed_view c.by_default.ensures
    ∙ default-viewed designed_view finite_in (λ (d : DesignRecord). d.refusal) (λ (d : DesignRecord). finite_coefficients d.cascade && finite_taps d.filter)
    refused_design accepted finite (λ n. refl) (λ n. refl) c.design_raw.result
    ∙ ap design_by_default c.design_raw.ensures
