-- `Cascade`'s `reset` meets its contract.
use mathlib.Core.Path.{sym, ◌∙◌}
use lib.Ieee.{binary64}
use Rattle.runs.proofs.Laws.{reset-refused, reset-done}
use Rattle.cascade_theory.specs.Cascade.{cleared_cascade, cascade}
use Rattle.cascade.proofs.CascadeFilterRecord.reset.Goals as goal

pub returns-then-not-check : goal.returns-then-not-check
returns-then-not-check c = reset-refused (cascade binary64) _ (sym c.check.ensures ∙ c.if-not-check.true)

pub returns : goal.returns
unfolding cleared_cascade
returns c =
    reset-done (cascade binary64) _ (sym c.check.ensures ∙ c.if-not-check.false)
    (rw (c.reset_sections.ensures, c.reset.ensures))
