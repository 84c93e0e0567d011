-- `design_fir::divide` meets its contract.
use mathlib.Core.Path.{refl}
use native.Mathlib.Omega.{arith}
use lib.Ieee.{nan}
use Rattle.lists.proofs.Overwriting.{map-turn}
use Rattle.design_fir.proofs.divide.Goals as goal

pub loop-c-preserved : goal.loop-c-preserved
loop-c-preserved c = map-turn _ c.loop-c.c-index nan (omega arith) refl c.loop-c.invariant
