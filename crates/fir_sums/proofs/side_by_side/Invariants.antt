-- `fir_sums::side_by_side` meets its contract.
use Rattle.std.proofs.Common.{◌≡◌, length}
use Rattle.std.specs.Float.{binary64}
use Rattle.fir_theory.specs.Convolution.{sums_from}
use Rattle.fir_sums.proofs.side_by_side.Given as goal

abbrev pub invariant-loop-i : goal.invariant-loop-i
invariant-loop-i l = l.sums ≡ sums_from binary64 l.taps l.i l.x (length l.taps) 16
