-- `fir_sums::narrow` meets its contract.
use Rattle.std.proofs.Common.{length}
use Rattle.std.specs.Float.{binary64}
use Rattle.lists.proofs.Overwriting.{Overwriting}
use Rattle.fir_theory.specs.Convolution.{sums_from}
use Rattle.fir_sums.proofs.narrow.Given as goal

abbrev pub invariant-loop-j : goal.invariant-loop-j
invariant-loop-j l =
    Overwriting l.initial.output 0 (sums_from binary64 l.taps (length l.taps) l.x (length l.taps) (length l.initial.output)) (length l.initial.output)
    l.output l.j
