-- `fir_block::count_clouded` meets its contract.
use Rattle.std.proofs.Common.{◌≡◌, ◌+◌, ◌∙◌, sym, cond, get_or}
use Rattle.std.specs.Float.{nan}
use Rattle.std.specs.Float.Ieee.Scale.{finite}
use Rattle.fir_theory.proofs.Counts.{count_turn, count-done}
use Rattle.fir_block.proofs.count_clouded.Goals as goal
use Rattle.fir_block.proofs.count_clouded.Goals.{then-is_finite, else-is_finite}

pub loop-x-preserved : goal.loop-x-preserved
loop-x-preserved c =
    let e = c.is_finite.ensures in
    let after : c.if-is_finite.age ≡ cond (finite (get_or c.args.input.now c.loop-x.x-index nan)) (c.loop-x.age + 1) 0 =
    elim c.if-is_finite.branch [
      | then-is_finite w ↦ rw (sym e ∙ w.if-is_finite.true) w.age-is
      | else-is_finite w ↦ rw (sym e ∙ w.if-is_finite.false) w.age-is
    ] in
    count_turn _ _ _ c.loop-x-test.true after c.from-clouded.ensures c.loop-x.invariant

pub returns-clause-count : goal.returns-clause-count
returns-clause-count c = count-done _ _ _ c.loop-x-test.false c.loop-x.invariant
