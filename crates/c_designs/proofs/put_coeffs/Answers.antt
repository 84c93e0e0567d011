-- `c_designs::put_coeffs` meets its contract.
use Rattle.std.proofs.Common.{arith, refl}
use Rattle.std.specs.Float.{nan}
use Rattle.lists.proofs.Overwriting.{overwrite-turn}
use Rattle.c_designs.proofs.put_coeffs.Goals as goal

pub loop-i-preserved : goal.loop-i-preserved
loop-i-preserved c = overwrite-turn _ _ nan (omega arith) (omega arith) refl c.loop-i.invariant
