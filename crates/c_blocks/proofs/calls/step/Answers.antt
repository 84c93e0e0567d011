-- `c_blocks::calls::step` meets its contract.
use mathlib.Core.Path.{ap, ◌∙◌}
use Rattle.std.specs.Int.{from_bool}
use Rattle.std.proofs.lemmas.Result.{err_from_is_err_and}
use Rattle.c_layout.proofs.Laws.{flag_from}
use Rattle.c_blocks.proofs.Laws.{set-one, step-not-single, step-refused, step-accepted}
use Rattle.c_blocks.proofs.calls.step.Goals as goal

pub returns-then-answer-ne1-clause-call : goal.returns-then-answer-ne1-clause-call
returns-then-answer-ne1-clause-call g c = step-not-single _ _ _ _ _ _ c.then-answer-ne1.either

pub returns-in_err-accepted-clause-call : goal.returns-in_err-accepted-clause-call
returns-in_err-accepted-clause-call g c =
    let p = err_from_is_err_and c.from_residual.result c.from_residual.ensures.1 in
    rw (p.1, p.2) (step-refused _ _ _ _ _ _ c.if-answer-ne1.false c.if-clouded-ne1.false c.update-a.ensures.ran _ c.in_err-accepted.ensures)

pub returns-clause-call : goal.returns-clause-call
returns-clause-call g c =
    step-accepted _ _ _ _ _ _ c.if-answer-ne1.false c.if-clouded-ne1.false c.update-a.ensures.ran c.in_ok-accepted.ensures
    (set-one _ c.if-answer-ne1.false c.number.ensures)
    (set-one _ c.if-clouded-ne1.false (c.from.ensures ∙ ap from_bool c.is_clouded.ensures ∙ flag_from _))
