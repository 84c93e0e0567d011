-- `design_cascade::butterworth::design_butterworth_lp_raw` meets its contract.
use mathlib.Core.Path.{sym}
use Rattle.design_checks.proofs.Laws.{good-params}
use Rattle.design_cascade.proofs.butterworth.design_butterworth_lp_raw.Goals as goal

pub invariant_of-cascade : goal.invariant_of-cascade
invariant_of-cascade c = let g = good-params _ _ c.args.order (sym c.in_ok-validate_params.ensures) in record { above_zero = g.0; within_limit = g.1 }
