-- `steps::steps_fir` meets its contract.
use mathlib.Core.Path.{refl, ap, ◌∙◌}
use lib.Ieee.{binary64}
use Rattle.std.specs.Prelude.{Ok, Err}
use Rattle.limits.specs.Limits.{max_taps}
use Rattle.fir_theory.specs.Fir.{FirDesignRecord, fir}
use Rattle.fir.specs.View.{taps_view, made_view}
use Rattle.steps.specs.Steps.{steps_of, fir_steps}
use Rattle.steps.proofs.Laws.{steps_viewed}
use Rattle.steps.proofs.steps_fir.Goals as goal

pub returns : goal.returns
unfolding fir_steps
returns c =
    let a = c.args in
    let viewed = steps_viewed (fir max_taps binary64) taps_view made_view (λ (m : FirDesignRecord). m.refusal) (λ (m : FirDesignRecord). m.filter)
    (elim [ Ok r ↦ refl | Err n ↦ refl ]) (λ r. refl) c.from_coeffs_raw-made.result a.input.now a.output.now in
    ap (λ n. record { refusal = n; output = c.steps.new.output }) c.number_in.ensures ∙ c.steps.ensures ∙ viewed
    ∙ ap (λ (m : FirDesignRecord). steps_of (fir max_taps binary64) m.refusal m.filter a.input.now a.output.now) c.from_coeffs_raw-made.ensures
