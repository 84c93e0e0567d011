-- `fir_sums::side_by_side` meets its contract.
use Rattle.std.proofs.Common.{refl, arith}
use Rattle.std.proofs.lemmas.List.{take_rest}
use Rattle.std.specs.Float.{binary64}
use Rattle.std.specs.Float.Ieee.{of_bits}
use Rattle.fir_theory.specs.Convolution.{sum_at, sums_from}
use Rattle.fir_theory.proofs.Sums.{taps-turn}
use Rattle.fir_sums.proofs.side_by_side.Goals as goal

pub loop-i-init : goal.loop-i-init
unfolding sums_from sum_at of_bits
loop-i-init c = refl

pub loop-i-preserved : goal.loop-i-preserved
loop-i-preserved c = taps-turn binary64 _ _ c.loop-i.i _ 16 (omega arith) c.loop-i.invariant (rw take_rest at c.add_scaled.ensures)
