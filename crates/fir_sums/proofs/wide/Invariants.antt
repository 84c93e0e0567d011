-- `fir_sums::wide` meets its contract.
use Rattle.std.proofs.Common.{◌*◌}
use Rattle.std.specs.Float.{binary64}
use Rattle.fir_theory.proofs.Sums.{Outputting}
use Rattle.fir_sums.proofs.wide.Given as goal

abbrev pub invariant-loop-k : goal.invariant-loop-k
invariant-loop-k l = Outputting binary64 l.taps l.x l.initial.output l.output (16 * l.k)
