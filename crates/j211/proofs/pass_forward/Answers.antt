-- `j211::pass_forward` meets its contract: a turn of its loop is `forward-turn`.
use Rattle.std.proofs.Common.{arith}
use Rattle.j211.proofs.Laws.{forward-turn, forward-done}
use Rattle.j211.proofs.pass_forward.Goals as goal

pub loop-place-preserved : goal.loop-place-preserved
loop-place-preserved c = forward-turn (omega arith) c.step.ensures.output c.step.ensures.history c.loop-place.invariant

pub returns : goal.returns
returns c = forward-done (omega arith) c.loop-place.invariant
