-- `j211::pass_backward` meets its contract: a turn of its loop is `backward-turn`.
use Rattle.std.proofs.Common.{arith}
use Rattle.j211.proofs.Laws.{backward-turn, backward-done}
use Rattle.j211.proofs.pass_backward.Goals as goal

pub loop-i-preserved : goal.loop-i-preserved
loop-i-preserved c = backward-turn (omega arith) c.step.ensures.output c.step.ensures.history (omega arith) c.loop-i.invariant

pub returns : goal.returns
returns c = backward-done (omega arith) c.loop-i.invariant
