-- `design_cascade::butterworth::design_butterworth_bp_raw` meets its contract.
use mathlib.Core.Path.{sym}
use Rattle.design_checks.proofs.Laws.{good-band}
use Rattle.design_cascade.proofs.butterworth.design_butterworth_bp_raw.Goals as goal

pub invariant_of-bp_cascade : goal.invariant_of-bp_cascade
invariant_of-bp_cascade c = let g = good-band _ _ _ c.args.order (sym c.in_ok-validate_band.ensures) in record { above_zero = g.0; within_limit = g.1 }
