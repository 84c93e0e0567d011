-- `fir::TapRecord::check` meets its contract.
use mathlib.Core.Path.{ap, ◌∙◌}
use mathlib.Core.List.{[]}
use Rattle.limits.specs.Limits.{max_taps}
use Rattle.fir_theory.specs.Fir.{check_taps}
use Rattle.fir_step.specs.View.{lent_view}
use Rattle.fir_step.specs.declared.Counts.{Counts}
use Rattle.fir.proofs.TapRecord.check.Goals as goal

pub returns : goal.returns
unfolding check_taps
returns c = c.check.ensures ∙ ap (λ (k : Counts). check_taps max_taps (lent_view [] [] k)) c.counts.ensures
