-- `capi::rival::read_channel` meets its contract.
use mathlib.Core.Path.{refl}
use borrow.Author.Tests.{eq-eqb, ne_eqb}
use Rattle.std.proofs.lemmas.Result.{err_from_is_err_and}
use Rattle.c_calls.specs.Reading.{read_call}
use Rattle.c_calls.proofs.Laws.{numbered}
use Rattle.c_blocks.proofs.Laws.{set-one}
use Rattle.capi.proofs.rival.read_channel.Goals as goal

pub returns-then-count-ne1 : goal.returns-then-count-ne1
unfolding read_call
returns-then-count-ne1 c = rw (ne_eqb _ 1 c.if-count-ne1.true)

pub returns-in_err-count : goal.returns-in_err-count
unfolding read_call
returns-in_err-count c =
    let r = err_from_is_err_and c.from_residual.result c.from_residual.ensures.1 in
    rw (r.1, r.2, eq-eqb _ 1 c.if-count-ne1.false, ← c.in_err-count.ensures, ne_eqb _ 0 (numbered c.in_err-count.field-0.0)) refl

pub returns : goal.returns
unfolding read_call
returns c = rw (eq-eqb _ 1 c.if-count-ne1.false, ← c.in_ok-count.ensures, set-one _ c.if-count-ne1.false refl) refl
