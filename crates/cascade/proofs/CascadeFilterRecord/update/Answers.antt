-- `Cascade`'s `update` meets its contract.
use mathlib.Core.Path.{sym, ◌∙◌}
use mathlib.Core.Bool.{true, false}
use lib.Ieee.{binary64}
use Rattle.runs.proofs.Laws.{answer-is, step-refused, step-answered}
use Rattle.cascade_theory.specs.Cascade.{cascade}
use Rattle.cascade_theory.proofs.Laws.{mark-next}
use Rattle.cascade.proofs.CascadeFilterRecord.update.Goals as goal
use Rattle.cascade.proofs.CascadeFilterRecord.update.Goals.{then-p, else-p}

pub returns-then-not-check : goal.returns-then-not-check
returns-then-not-check c = step-refused (cascade binary64) _ _ (sym c.check.ensures ∙ c.if-not-check.true)

pub returns : goal.returns
returns c =
    let p = c.pass-p.ensures in
    let m = mark-next binary64 _ _ p.1 in
    step-answered (cascade binary64) _ _ (sym c.check.ensures ∙ c.if-not-check.false)
    (elim c.if-p.branch [
      | then-p w ↦ rw w.answer-is (answer-is (cascade binary64) _ _ true p.0 m w.if-p.true)
      | else-p w ↦ rw w.answer-is (answer-is (cascade binary64) _ _ false p.0 m w.if-p.false)
    ])
    p.1
