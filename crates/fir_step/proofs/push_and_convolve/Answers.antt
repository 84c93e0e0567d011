-- `fir_step::push_and_convolve` meets its contract.
use Rattle.std.proofs.Common.{◌∷◌, arith}
use Rattle.fir_theory.proofs.Laws.{push-turn, push-done, pushed_all, sum-turn, sum_done}
use Rattle.fir_step.proofs.push_and_convolve.Goals as goal

pub loop-i-preserved : goal.loop-i-preserved
loop-i-preserved c =
    let a = c.args in
    let l = c.loop-i in
    let p = l.invariant.push in
    let e = c.swap.ensures in
    rw (e.x_after, e.y_after) (record {
      push = push-turn _ _ _ c.loop-i-test.true p;
      sum = rw p.1 (sum-turn _ a.taps.now (a.x ∷ a.samples.now) _ _ l.i c.loop-i-test.true (omega arith) (omega arith) l.invariant.sum);
    })

pub returns : goal.returns
returns c =
    let a = c.args in
    let p = push-done _ _ _ c.loop-i-test.false c.loop-i.invariant.push in
    record { pushed = p; sum = rw (p, pushed_all a.x a.samples.now) (sum_done _ _ _ _ _ c.loop-i.i c.loop-i-test.false c.loop-i.invariant.sum) }
