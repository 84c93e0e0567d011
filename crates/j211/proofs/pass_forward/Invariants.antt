-- `j211::pass_forward` meets its contract: a turn of its loop is `forward-turn`.
use Rattle.j211.proofs.Laws.{Forward}
use Rattle.j211.proofs.pass_forward.Given as goal

abbrev pub invariant-loop-place : goal.invariant-loop-place
invariant-loop-place l = Forward l.k l.initial.buffer l.h l.buffer l.place-index
