-- `fir_sums::wide` meets its contract.
use Rattle.std.proofs.Common.{◌≡◌, ◌+◌, ◌*◌, ◌∙◌, arith}
use Rattle.std.proofs.lemmas.List.{take_rest}
use Rattle.std.specs.Float.{binary64}
use Rattle.fir_theory.proofs.Sums.{out-start, out-turn}
use Rattle.fir_sums.proofs.wide.Goals as goal

pub loop-k-init : goal.loop-k-init
loop-k-init c = out-start binary64 _ _ _

pub loop-k-preserved : goal.loop-k-preserved
loop-k-preserved c =
    let next : 16 * c.loop-k.k + 16 ≡ 16 * (c.loop-k.k + 1) = omega arith in
    let ys = c.copy_from_slice.ensures.after ∙ rw take_rest at c.side_by_side.ensures in
    rw (← next) (out-turn binary64 _ _ _ (16 * c.loop-k.k) 16 _ (omega arith) ys c.loop-k.invariant)
