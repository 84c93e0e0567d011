-- `c_blocks::filters::LentTapsLent::reset` meets its contract.
use mathlib.Core.Path.{ap}
use lib.ListN.{length}
use native.Mathlib.Omega.{arith}
use Rattle.c_blocks.proofs.Taps.{uncounted, resets-others, resets-taps}
use Rattle.c_blocks.proofs.Written.{unfit-resets}
use Rattle.c_blocks.proofs.filters.LentTapsLent.reset.Goals as goal

pub returns-in_default-clause-ran : goal.returns-in_default-clause-ran
returns-in_default-clause-ran c = unfit-resets _ _ _ (uncounted _ _ _ c.in_default.ensures)

pub returns-clause-ran : goal.returns-clause-ran
returns-clause-ran c =
    resets-taps _ _ _ c.in-Some.counts c.in-Some.ensures _ _ _ c.write.ensures.counts
    (omega (arith, ap length c.write.ensures.samples)) (rw c.write.ensures.samples c.reset-outcome.ensures)

pub write-requires : goal.write-requires
write-requires c = resets-others _ _ _ c.in-Some.counts c.in-Some.ensures c.reset-outcome.ensures
