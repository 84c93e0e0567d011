-- `vectors::try_vectors` meets its contract. At most as many agree as were run.
use Rattle.std.proofs.Common.{◌≤◌}
use Rattle.vectors.proofs.try_vectors.Given as goal

abbrev pub invariant-loop-run : goal.invariant-loop-run
invariant-loop-run g l = l.agree ≤ l.run
