-- `fir_sums::add_scaled` meets its contract.
use Rattle.std.proofs.Common.{length}
use Rattle.std.specs.Float.{binary64}
use Rattle.lists.proofs.Overwriting.{Overwriting}
use Rattle.fir_theory.specs.Convolution.{scaled}
use Rattle.fir_sums.proofs.add_scaled.Given as goal

abbrev pub invariant-loop-j : goal.invariant-loop-j
invariant-loop-j l = Overwriting l.initial.sums 0 (scaled binary64 l.initial.sums l.t l.x 0) (length l.initial.sums) l.sums l.j
