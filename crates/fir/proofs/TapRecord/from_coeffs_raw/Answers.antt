-- `fir::TapRecord::from_coeffs_raw` meets its contract.
use mathlib.Core.Path.{ap, ◌∙◌}
use native.Mathlib.Omega.{arith}
use Rattle.limits.specs.Limits.{max_taps}
use Rattle.lists.specs.Copies.{copied}
use Rattle.fir_theory.proofs.Laws.{made}
use Rattle.fir.proofs.TapRecord.from_coeffs_raw.Goals as goal

pub returns : goal.returns
returns c =
    let ts = c.args.coeffs.now in
    made max_taps ts (omega arith) (omega arith) c.no_numbers.ensures (c.copy.ensures ∙ ap (copied ts) c.no_numbers-taps.ensures)
