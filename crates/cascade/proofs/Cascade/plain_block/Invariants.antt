-- `cascade::Cascade::plain_block` meets its contract: a turn of its loop is a turn of `Running`.
use lib.Ieee.{binary64}
use Rattle.runs.proofs.Laws.{Running}
use Rattle.cascade_theory.specs.Cascade.{cascade}
use Rattle.cascade.specs.View.{cascade_view}
use Rattle.cascade.proofs.Cascade.plain_block.Given as goal

abbrev pub invariant-loop-i : goal.invariant-loop-i
invariant-loop-i l = Running (cascade binary64) (cascade_view l.initial.cascade) l.input l.initial.output (cascade_view l.cascade) l.output
    l.clouded l.i
