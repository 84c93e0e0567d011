-- `design_fir::windowed` meets its contract.
use mathlib.Core.Path.{◌∙◌}
use native.Mathlib.Omega.{arith}
use lib.Ieee.{nan}
use Rattle.lists.proofs.Overwriting.{overwrite-start, overwrite-turn}
use Rattle.lists.proofs.Places.{up_to-length, up_to-at}
use Rattle.design_fir.proofs.windowed.Goals as goal

pub loop-i-init : goal.loop-i-init
loop-i-init c = overwrite-start 0 (up_to-length _ _) (omega arith)

pub loop-i-preserved : goal.loop-i-preserved
loop-i-preserved c = overwrite-turn _ _ nan (omega arith) (omega arith) (c.tap.ensures ∙ up_to-at _ _ _ nan (omega arith)) c.loop-i.invariant
