-- `fir_block::pass_some` meets its contract.
use Rattle.std.proofs.Common.{◌≡◌, true}
use Rattle.std.specs.Float.{binary64}
use Rattle.limits.specs.Limits.{max_taps}
use Rattle.runs.proofs.Laws.{Running}
use Rattle.fir_theory.specs.Fir.{fir}
use Rattle.fir_theory.specs.Lent.{fits}
use Rattle.fir_step.specs.View.{lent_view}
use Rattle.fir_block.proofs.pass_some.Given as goal

abbrev pub invariant-loop-i : goal.invariant-loop-i
invariant-loop-i l = record {
  fit : fits max_taps (lent_view l.taps l.samples l.counts) ≡ true;
  run : Running (fir max_taps binary64) (lent_view l.taps l.initial.samples l.initial.counts) l.input l.initial.output
      (lent_view l.taps l.samples l.counts) l.output l.clouded l.i;
}
