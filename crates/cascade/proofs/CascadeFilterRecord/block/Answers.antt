-- `Cascade`'s `block` meets its contract: skewed or plain, the block is the same.
use mathlib.Core.Path.{sym, ◌∙◌}
use native.Mathlib.Omega.{arith}
use lib.Ieee.{binary64}
use Rattle.runs.proofs.Laws.{block_refused, block-short}
use Rattle.cascade_theory.specs.Cascade.{cascade}
use Rattle.cascade.proofs.CascadeFilterRecord.block.Goals as goal

pub returns-then-not-check : goal.returns-then-not-check
returns-then-not-check c = rw c.refused_block.ensures (block_refused (cascade binary64) _ _ _ (sym c.check.ensures ∙ c.if-not-check.true))

pub returns-then-output-input : goal.returns-then-output-input
returns-then-output-input c =
    rw c.refused_block-then-output-input.ensures
    (block-short (cascade binary64) _ c.args.input.now c.args.output.now (sym c.check.ensures ∙ c.if-not-check.false) (omega arith))
