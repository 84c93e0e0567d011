-- `fir_step::reset` meets its contract.
use Rattle.std.proofs.lemmas.Result.{err_from_is_err_and}
use Rattle.std.specs.Float.{binary64}
use Rattle.limits.specs.Limits.{max_taps}
use Rattle.runs.proofs.Lent.{lent-reset-refused}
use Rattle.fir_theory.specs.Fir.{fir}
use Rattle.fir_theory.specs.Lent.{fits}
use Rattle.fir_theory.proofs.Laws.{numbered, not-refused, reset-is}
use Rattle.fir_step.proofs.reset.Goals as goal

pub returns-in_err-refusal_of : goal.returns-in_err-refusal_of
returns-in_err-refusal_of c =
    let p = err_from_is_err_and c.from_residual.result c.from_residual.ensures.1 in
    rw (p.1, p.2) (lent-reset-refused (fir max_taps binary64) (fits max_taps) _ c.in_err-refusal_of.ensures (numbered _))

pub returns : goal.returns
returns c =
    let g = not-refused binary64 max_taps _ c.in_ok-refusal_of.ensures in
    reset-is binary64 max_taps _ g.0 g.1 (c.fill.ensures.after (λ y e. e))
