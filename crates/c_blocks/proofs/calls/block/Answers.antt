-- `c_blocks::calls::block` meets its contract.
use mathlib.Core.Path.{refl}
use Rattle.std.proofs.lemmas.Result.{err_from_is_err_and}
use Rattle.c_calls.proofs.Laws.{numbered, block-not-single}
use Rattle.c_blocks.proofs.Laws.{set-one, block_refused, block-accepted}
use Rattle.c_blocks.proofs.calls.block.Goals as goal

pub returns-then-clouded-ne1-clause-call : goal.returns-then-clouded-ne1-clause-call
returns-then-clouded-ne1-clause-call g c = block-not-single _ _ _ _ _ _ c.if-clouded-ne1.true

pub returns-in_err-clouded-clause-call : goal.returns-in_err-clouded-clause-call
returns-in_err-clouded-clause-call g c =
    let p = err_from_is_err_and c.from_residual.result c.from_residual.ensures.1 in
    rw (p.1, p.2) (block_refused _ _ _ _ _ _ c.if-clouded-ne1.false c.in_err-clouded.ensures.ran (numbered _))

pub returns-clause-call : goal.returns-clause-call
returns-clause-call g c = block-accepted _ _ _ _ _ _ c.if-clouded-ne1.false c.in_ok-clouded.ensures.ran refl (set-one _ c.if-clouded-ne1.false refl)
