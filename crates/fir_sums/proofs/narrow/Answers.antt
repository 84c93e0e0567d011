-- `fir_sums::narrow` meets its contract.
use Rattle.std.proofs.Common.{arith, ◌∙◌}
use Rattle.std.specs.Float.{nan, binary64}
use Rattle.lists.proofs.Overwriting.{overwrite-start, overwrite-turn}
use Rattle.fir_theory.proofs.Sums.{length-sums, sums_at, sum-part}
use Rattle.fir_sums.proofs.narrow.Goals as goal

pub loop-j-init : goal.loop-j-init
loop-j-init c = overwrite-start 0 (length-sums binary64 _ _ _ _ _) (omega arith)

pub loop-j-preserved : goal.loop-j-preserved
loop-j-preserved c = let h = c.loop-j-test.true in
    overwrite-turn _ _ nan (omega arith) h (c.one.ensures ∙ sum-part binary64 _ _ _ _ _ (omega arith) ∙ sums_at binary64 _ _ _ _ _ _ h) c.loop-j.invariant
