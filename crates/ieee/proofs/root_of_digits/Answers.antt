-- `ieee::root_of_digits` meets its contract: an even exponent is halved, and an odd one is halved with the digits doubled.
use native.Mathlib.Omega.{arith}
use Rattle.ieee.proofs.Halves.{at-even, at-odd}
use Rattle.ieee.proofs.root_of_digits.Goals as goal

pub returns-then-e-eq0 : goal.returns-then-e-eq0
returns-then-e-eq0 c = at-even c.args.m c.args.e c.nearest_root.result (omega arith) (omega arith) c.if-e-eq0.true
    c.nearest_root.ensures

pub returns : goal.returns
returns c = at-odd c.args.m c.args.e c.nearest_root-2.result (omega arith) (omega arith) c.if-e-eq0.false
    c.nearest_root-2.ensures
