-- `fir_step::push_and_convolve_held` meets its contract.
use Rattle.std.proofs.Common.{◌∷◌, min, take}
use Rattle.std.specs.Float.{binary64}
use Rattle.fir_theory.proofs.Laws.{Pushing, Summing}
use Rattle.fir_step.proofs.push_and_convolve_held.Given as goal

abbrev pub invariant-loop-i : goal.invariant-loop-i
invariant-loop-i l = record {
  push : Pushing l.initial.samples l.x l.samples l.carried l.i;
  sum : Summing binary64 l.taps (take l.held (l.x ∷ l.initial.samples)) l.sum (min l.i l.held);
}
