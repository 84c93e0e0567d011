-- `fir_step::update` meets its contract.
use Rattle.std.proofs.Common.{sym, ◌∙◌}
use Rattle.std.specs.Float.{binary64}
use Rattle.limits.specs.Limits.{max_taps}
use Rattle.runs.proofs.Lent.{lent-step, lent-step-refused}
use Rattle.fir_theory.specs.Fir.{fir}
use Rattle.fir_theory.specs.Lent.{fits}
use Rattle.fir_theory.proofs.Laws.{numbered, not-refused}
use Rattle.fir_step.proofs.update.Goals as goal

pub pass-requires : goal.pass-requires
pass-requires c = let g = not-refused binary64 max_taps _ c.in-Ok.ensures in
    record { fit = g.0; good = g.1 }

pub returns-in-Ok : goal.returns-in-Ok
returns-in-Ok c = c.pass.ensures ∙ sym (lent-step (fir max_taps binary64) (fits max_taps) _ _ (not-refused binary64 max_taps _ c.in-Ok.ensures).0)

pub returns-in-Err : goal.returns-in-Err
returns-in-Err c = lent-step-refused (fir max_taps binary64) (fits max_taps) _ _ c.in-Err.ensures (numbered _)
