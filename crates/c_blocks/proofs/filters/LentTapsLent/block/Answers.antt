-- `c_blocks::filters::LentTapsLent::block` meets its contract.
use mathlib.Core.Path.{ap}
use lib.ListN.{length}
use native.Mathlib.Omega.{arith}
use Rattle.c_blocks.proofs.Taps.{uncounted, blocks-others, blocks-taps}
use Rattle.c_blocks.proofs.Written.{unfit-blocks}
use Rattle.c_blocks.proofs.filters.LentTapsLent.block.Goals as goal

pub returns-in_default-clause-ran : goal.returns-in_default-clause-ran
returns-in_default-clause-ran c = unfit-blocks _ _ _ (uncounted _ _ _ c.in_default.ensures) _ _

pub returns-clause-ran : goal.returns-clause-ran
returns-clause-ran c =
    blocks-taps _ _ _ c.in-Some.counts c.in-Some.ensures _ _ _ c.write.ensures.counts
    (omega (arith, ap length c.write.ensures.samples)) _ _ (rw c.write.ensures.samples c.block-outcome.ensures)

pub write-requires : goal.write-requires
write-requires c = blocks-others _ _ _ c.in-Some.counts c.in-Some.ensures _ _ c.block-outcome.ensures
