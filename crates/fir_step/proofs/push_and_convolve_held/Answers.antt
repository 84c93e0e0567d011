-- `fir_step::push_and_convolve_held` meets its contract.
use Rattle.std.proofs.Common.{◌≡◌, ◌∷◌, ◌+◌, min, length, arith}
use Rattle.lists.proofs.Places.{take_min}
use Rattle.fir_theory.proofs.Laws.{push-turn, push-done, pushed_all, sum-turn, sum_done}
use Rattle.fir_step.proofs.push_and_convolve_held.Goals.{then-i-held, else-i-held}
use Rattle.fir_step.proofs.push_and_convolve_held.Goals as goal

pub loop-i-preserved : goal.loop-i-preserved
loop-i-preserved c =
    let a = c.args in
    let l = c.loop-i in
    let p = l.invariant.push in
    let e = c.swap.ensures in
    elim c.if-i-held.branch [
      | then-i-held w ↦
          let m : min l.i a.held ≡ l.i = omega (arith, w.if-i-held.true) in
          let n : min (l.i + 1) a.held ≡ l.i + 1 = omega (arith, w.if-i-held.true) in
          let s = rw m at l.invariant.sum in
          rw (w.samples-is, w.sum-is, e.x_after, e.y_after) (record {
            push = push-turn _ _ _ c.loop-i-test.true p;
            sum = rw (n, p.1) (sum-turn _ a.taps.now (a.x ∷ a.samples.now) _ _ l.i w.if-i-held.true (omega arith) (omega arith) s);
          })
      | else-i-held w ↦
          let m : min (l.i + 1) a.held ≡ min l.i a.held = omega (arith, w.if-i-held.false) in
          rw (w.samples-is, w.sum-is, e.x_after, e.y_after) (record { push = push-turn _ _ _ c.loop-i-test.true p; sum = rw m l.invariant.sum })
    ]

pub returns-clause-pushed : goal.returns-clause-pushed
returns-clause-pushed c = push-done _ _ _ c.loop-i-test.false c.loop-i.invariant.push

pub returns-clause-sum : goal.returns-clause-sum
returns-clause-sum c =
    let a = c.args in
    let p = push-done _ _ _ c.loop-i-test.false c.loop-i.invariant.push in
    let s = sum_done _ a.taps.now (a.x ∷ a.samples.now) _ a.held (min c.loop-i.i a.held) (omega (arith, c.loop-i-test.false)) c.loop-i.invariant.sum in
    let m : min a.held (length a.samples.now) ≡ a.held = omega arith in
    rw (p, pushed_all a.x a.samples.now, take_min a.held (length a.samples.now) (a.x ∷ a.samples.now), m) s
