-- `fir_block::count_clouded` meets its contract.
use Rattle.fir_theory.proofs.Counts.{Counting}
use Rattle.fir_block.proofs.count_clouded.Given as goal

abbrev pub invariant-loop-x : goal.invariant-loop-x
invariant-loop-x l = Counting l.n l.fn.age l.input l.clouded l.age l.x-index
