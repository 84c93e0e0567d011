-- `series::horner` meets its contract. The loop's invariant: the coefficients from place i on are summed.
use Prim.Native.Nat.{◌-◌}
use native.Mathlib.Omega.{arith}
use Rattle.series.proofs.Turns.{from-start, from-turn}
use Rattle.series.proofs.horner.Goals as goal

pub loop-i-init : goal.loop-i-init
loop-i-init g c = λ k h. from-start k c.args.s c.coefficient-p.result c.args.n (h c.args.n _ (omega arith) c.coefficient-p.ensures)

pub loop-i-preserved : goal.loop-i-preserved
loop-i-preserved g c = λ k h.
    let l = c.loop-i in
    from-turn k c.args.s l.p c.args.n l.i c.loop-i-test.true l.auto.i (h (l.i - 1) _ (omega arith) c.coefficient.ensures) (l.invariant k h)
