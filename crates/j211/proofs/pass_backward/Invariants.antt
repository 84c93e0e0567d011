-- `j211::pass_backward` meets its contract: a turn of its loop is `backward-turn`.
use Rattle.j211.proofs.Laws.{Backward}
use Rattle.j211.proofs.pass_backward.Given as goal

abbrev pub invariant-loop-i : goal.invariant-loop-i
invariant-loop-i l = Backward l.k l.initial.buffer l.h l.buffer l.i
