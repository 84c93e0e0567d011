-- `steps::run` meets its contract.
use Prim.Native.Nat.{◌≤◌}
use lib.ListN.{length}
use Rattle.runs.proofs.Laws.{Stepping}
use Rattle.steps.proofs.run.Given as goal

abbrev pub invariant-loop-i : goal.invariant-loop-i
invariant-loop-i g l = record {
  room : length l.input ≤ length l.output;
  steps : Stepping g.R.FilterRecord.theory (g.R.FilterRecord.view l.initial.filter) l.input l.initial.output (g.R.FilterRecord.view l.filter) l.output l.i;
}
