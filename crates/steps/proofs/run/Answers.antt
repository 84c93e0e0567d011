-- `steps::run` meets its contract.
use native.Mathlib.Omega.{arith}
use Rattle.runs.proofs.Laws.{steps-turn, steps-done}
use Rattle.steps.proofs.run.Goals as goal

pub loop-i-preserved : goal.loop-i-preserved
loop-i-preserved g c =
    let l = c.loop-i in
    let turned = steps-turn g.R.FilterRecord.theory _ _ _ c.loop-i-test.true (omega arith) c.update-u.ensures c.place.ensures l.invariant.steps in
    record { room = omega (arith, turned.same, l.invariant.steps.same, l.invariant.room); steps = turned }

pub returns : goal.returns
returns g c = steps-done g.R.FilterRecord.theory _ _ _ (omega (arith, c.loop-i-test.false)) c.loop-i.invariant.steps
