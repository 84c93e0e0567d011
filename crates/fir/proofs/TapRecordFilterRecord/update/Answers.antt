-- `TapRecord`'s `update` meets its contract.
use mathlib.Core.Path.{◌≡◌, ap, ◌∙◌}
use lib.Ieee.{binary64}
use lib.ListN.{length}
use Rattle.runs.specs.Runs.{Step, step}
use Rattle.runs.specs.Lent.{lent_step}
use Rattle.runs.specs.View.{answer_view}
use Rattle.runs.proofs.Lent.{lent-step}
use Rattle.fir_theory.specs.Fir.{TapsRecord, fir}
use Rattle.limits.specs.Limits.{max_taps}
use Rattle.fir_theory.specs.Lent.{fits}
use Rattle.fir_theory.proofs.Laws.{lengths-fit}
use Rattle.fir_step.specs.View.{lent_view}
use Rattle.fir_step.specs.declared.Counts.{Counts}
use Rattle.fir.specs.View.{taps_view}
use Rattle.fir.proofs.Kept.{step_keeps, put_back}
use borrow.Author.Rules.{rules}
use Rattle.fir.proofs.TapRecordFilterRecord.update.Goals as goal

pub returns : goal.returns
returns c =
    let a = c.args in
    let t : length c.args.self.taps ≡ max_taps = search rules in
    let h : length c.args.self.samples ≡ max_taps = search rules in
    let F = fir max_taps binary64 in
    let e : ◌≡◌ {A = Step TapsRecord} _ (step F (taps_view a.self) a.x) =
    c.update-answer.ensures ∙ ap (λ (k : Counts). lent_step F (fits max_taps) (lent_view a.self.taps a.self.samples k) a.x) c.counts-counts.ensures
    ∙ lent-step F (fits max_taps) _ _ (lengths-fit max_taps _ t h) in
    ap (λ (s : TapsRecord). record { answer = answer_view c.update-answer.result; state = s })
    (put_back _ _ (step_keeps (taps_view a.self) a.x)
    (ap (λ (z : Step TapsRecord). z.state) e)) ∙ e
