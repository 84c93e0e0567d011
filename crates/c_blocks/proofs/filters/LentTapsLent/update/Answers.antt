-- `c_blocks::filters::LentTapsLent::update` meets its contract.
use mathlib.Core.Path.{ap}
use lib.ListN.{length}
use native.Mathlib.Omega.{arith}
use Rattle.c_blocks.proofs.Taps.{uncounted, steps-others, steps-taps}
use Rattle.c_blocks.proofs.Written.{unfit-steps}
use Rattle.c_blocks.proofs.filters.LentTapsLent.update.Goals as goal

pub returns-in_default-clause-ran : goal.returns-in_default-clause-ran
returns-in_default-clause-ran c = unfit-steps _ _ _ (uncounted _ _ _ c.in_default.ensures) _

pub returns-clause-ran : goal.returns-clause-ran
returns-clause-ran c =
    steps-taps _ _ _ c.in-Some.counts c.in-Some.ensures _ _ _ c.write.ensures.counts
    (omega (arith, ap length c.write.ensures.samples)) _ (rw c.write.ensures.samples c.update-answer.ensures)

pub write-requires : goal.write-requires
write-requires c = steps-others _ _ _ c.in-Some.counts c.in-Some.ensures _ c.update-answer.ensures
