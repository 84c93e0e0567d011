-- `design_fir::windowed` meets its contract.
use Rattle.lists.specs.Lists.{up_to}
use Rattle.lists.proofs.Overwriting.{Overwriting}
use Rattle.design_fir.specs.Fir.{tap_of}
use Rattle.design_fir.proofs.windowed.Given as goal

abbrev pub invariant-loop-i : goal.invariant-loop-i
invariant-loop-i l = Overwriting l.fn.coeffs 0 (up_to (tap_of l.window l.taps l.cutoff) l.taps) l.taps l.coeffs l.i
