-- `design_cascade::chebyshev::design_chebyshev1_lp_raw` meets its contract.
use mathlib.Core.Path.{sym}
use Rattle.design_checks.proofs.Laws.{good-chebyshev}
use Rattle.design_cascade.proofs.chebyshev.design_chebyshev1_lp_raw.Goals as goal

pub invariant_of-order : goal.invariant_of-order
invariant_of-order c = let g = good-chebyshev _ _ _ c.args.order (sym c.in_ok-validate_chebyshev.ensures) in record { above_zero = g.0; within_limit = g.1 }
