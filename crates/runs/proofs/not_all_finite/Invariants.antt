-- `runs::not_all_finite` meets its contract: a turn of its loop is a turn of `Counting`.
use Rattle.runs.proofs.Scan.{Counting}
use Rattle.runs.proofs.not_all_finite.Given as goal

abbrev pub invariant-loop-x : goal.invariant-loop-x
invariant-loop-x l = Counting l.numbers l.count l.x-index
