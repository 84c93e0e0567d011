-- `fir_block::block` meets its contract.
use borrow.Author.Tests.{ltb-true}
use Rattle.std.proofs.Common.{sym, ◌∙◌}
use Rattle.std.proofs.lemmas.Result.{err_from_is_err_and}
use Rattle.std.specs.Float.{binary64}
use Rattle.limits.specs.Limits.{max_taps}
use Rattle.runs.proofs.Laws.{block-short}
use Rattle.runs.proofs.Lent.{lent-block, lent-block-refused}
use Rattle.fir_theory.specs.Fir.{fir}
use Rattle.fir_theory.specs.Lent.{fits}
use Rattle.fir_theory.proofs.Laws.{numbered, refusing, not-refused}
use Rattle.fir_block.proofs.block.Goals as goal

pub returns-in_err-refusal_of : goal.returns-in_err-refusal_of
returns-in_err-refusal_of c =
    let p = err_from_is_err_and c.from_residual.result c.from_residual.ensures.1 in
    rw (p.1, p.2) (lent-block-refused (fir max_taps binary64) (fits max_taps) _ _ _ c.in_err-refusal_of.ensures (numbered _))

pub returns-in_err-refuse_if : goal.returns-in_err-refuse_if
returns-in_err-refuse_if c =
    let g = not-refused binary64 max_taps _ c.in_ok-refusal_of.ensures in
    let p = err_from_is_err_and c.from_residual-in_err-refuse_if.result c.from_residual-in_err-refuse_if.ensures.1 in
    let short = refusing _ _ c.in_err-refuse_if.ensures in
    rw (p.1, p.2, short.1)
    (block-short (fir max_taps binary64) _ _ _ g.1 (ltb-true _ _ short.0) ∙ sym (lent-block (fir max_taps binary64) (fits max_taps) _ _ _ g.0))

pub pass-requires-clause-fit : goal.pass-requires-clause-fit
pass-requires-clause-fit c = (not-refused binary64 max_taps _ c.in_ok-refusal_of.ensures).0

pub pass-requires-clause-good : goal.pass-requires-clause-good
pass-requires-clause-good c = (not-refused binary64 max_taps _ c.in_ok-refusal_of.ensures).1

pub returns : goal.returns
returns c =
    c.pass.ensures ∙ sym (lent-block (fir max_taps binary64) (fits max_taps) _ _ _ (not-refused binary64 max_taps _ c.in_ok-refusal_of.ensures).0)
