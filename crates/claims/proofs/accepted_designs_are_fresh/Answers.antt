-- `claims::accepted_designs_are_fresh` meets its contract.
use Rattle.limits.specs.Limits.{max_taps}
use lib.Ieee.{binary64}
use Rattle.cascade_theory.proofs.Forgetting as cascade
use Rattle.fir_theory.proofs.Fresh as fir
use Rattle.design_cascade.proofs.Fresh.{butterworth-lp-fresh, butterworth-hp-fresh, chebyshev1-fresh, chebyshev2-fresh, bandpass-fresh}
use Rattle.design_fir.proofs.Fresh.{fir-fresh}
use Rattle.claims.proofs.Forms.{cascade-fresh, taps-fresh}
use Rattle.claims.proofs.accepted_designs_are_fresh.Goals as goal

pub returns : goal.returns
returns c = record {
  low_pass = λ n cutoff rate. cascade-fresh _ (butterworth-lp-fresh n cutoff rate);
  high_pass = λ n cutoff rate. cascade-fresh _ (butterworth-hp-fresh n cutoff rate);
  chebyshev_i = λ n cutoff db rate. cascade-fresh _ (chebyshev1-fresh n cutoff db rate);
  chebyshev_ii = λ n cutoff db rate. cascade-fresh _ (chebyshev2-fresh n cutoff db rate);
  band_pass = λ n low high rate. cascade-fresh _ (bandpass-fresh n low high rate);
  fir_low_pass = λ n cutoff window. taps-fresh _ (fir-fresh n cutoff window);
  ready_made = λ ts. taps-fresh _ (fir.ready-made-fresh max_taps binary64 ts);
  cascade_reset = cascade.reset-makes-fresh binary64;
  fir_reset = fir.reset-makes-fresh max_taps binary64;
}
