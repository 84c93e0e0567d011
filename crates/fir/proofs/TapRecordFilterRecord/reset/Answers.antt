-- `TapRecord`'s `reset` meets its contract.
use mathlib.Core.Path.{◌≡◌, ap, ◌∙◌}
use lib.Ieee.{binary64}
use lib.ListN.{length}
use Rattle.runs.specs.Runs.{Reset, reset}
use Rattle.runs.specs.Lent.{lent_reset}
use Rattle.runs.specs.View.{refusal_in}
use Rattle.runs.proofs.Lent.{lent-reset}
use Rattle.fir_theory.specs.Fir.{TapsRecord, fir}
use Rattle.limits.specs.Limits.{max_taps}
use Rattle.fir_theory.specs.Lent.{fits}
use Rattle.fir_theory.proofs.Laws.{lengths-fit}
use Rattle.fir_step.specs.View.{lent_view}
use Rattle.fir_step.specs.declared.Counts.{Counts}
use Rattle.fir.specs.View.{taps_view}
use Rattle.fir.proofs.Kept.{reset_keeps, put_back}
use borrow.Author.Rules.{rules}
use Rattle.fir.proofs.TapRecordFilterRecord.reset.Goals as goal

pub returns : goal.returns
returns c =
    let a = c.args in
    let t : length c.args.self.taps ≡ max_taps = search rules in
    let h : length c.args.self.samples ≡ max_taps = search rules in
    let F = fir max_taps binary64 in
    let e : ◌≡◌ {A = Reset TapsRecord} _ (reset F (taps_view a.self)) =
    c.reset-outcome.ensures ∙ ap (λ (k : Counts). lent_reset F (fits max_taps) (lent_view a.self.taps a.self.samples k)) c.counts-counts.ensures
    ∙ lent-reset F (fits max_taps) _ (lengths-fit max_taps _ t h) in
    ap (λ (s : TapsRecord). record { refusal = refusal_in c.reset-outcome.result; state = s })
    (put_back _ _ (reset_keeps (taps_view a.self))
    (ap (λ (z : Reset TapsRecord). z.state) e)) ∙ e
