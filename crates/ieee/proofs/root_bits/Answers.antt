-- `ieee::root_bits` meets its contract. The loop brings a subnormal's digits up to 53 and keeps m * 2 ^ e. The measure is e.
use native.Mathlib.Omega.{arith}
use Rattle.ieee.proofs.Halves.{some_left, one_up}
use Rattle.ieee.proofs.root_bits.Goals as goal

pub loop-m-preserved : goal.loop-m-preserved
loop-m-preserved c =
    let l = c.loop-m in
    let left = some_left l.m c.args.b l.e l.invariant.0 c.requires.0 c.loop-m-test.true in
    (one_up l.m c.args.b l.e l.invariant.0 left, omega arith, omega arith, omega arith)
