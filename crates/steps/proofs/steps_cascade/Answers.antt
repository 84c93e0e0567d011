-- `steps::steps_cascade` meets its contract.
use mathlib.Core.Path.{refl, ap, ◌∙◌}
use lib.Ieee.{binary64}
use Rattle.std.specs.Prelude.{Ok, Err}
use Rattle.cascade_theory.specs.Cascade.{cascade}
use Rattle.cascade.specs.View.{cascade_view}
use Rattle.design_cascade.specs.Design.{CascadeDesignRecord}
use Rattle.design_cascade.specs.View.{design_view}
use Rattle.steps.specs.Steps.{steps_of, cascade_steps}
use Rattle.steps.proofs.Laws.{steps_viewed}
use Rattle.steps.proofs.steps_cascade.Goals as goal

pub returns : goal.returns
unfolding cascade_steps
returns c =
    let a = c.args in
    let viewed = steps_viewed (cascade binary64) cascade_view design_view (λ (d : CascadeDesignRecord). d.refusal) (λ (d : CascadeDesignRecord). d.cascade)
    (elim [ Ok r ↦ refl | Err n ↦ refl ]) (λ r. refl) c.design_butterworth_lp_raw-made.result a.input.now a.output.now in
    ap (λ n. record { refusal = n; output = c.steps.new.output }) c.number_in.ensures ∙ c.steps.ensures ∙ viewed
    ∙ ap (λ (d : CascadeDesignRecord). steps_of (cascade binary64) d.refusal d.cascade a.input.now a.output.now) c.design_butterworth_lp_raw-made.ensures
