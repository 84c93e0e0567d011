-- `design_fir::design_fir_lp_raw` meets its contract.
use mathlib.Core.Path.{sym, ap}
use lib.Ieee.{of_bits}
use Rattle.lists.proofs.Places.{drop-replicate}
use Rattle.fir_theory.specs.Fir.{TapsRecord, holding}
use Rattle.design_checks.proofs.Laws.{good-fir}
use Rattle.design_fir.specs.Fir.{fir_lp}
use Rattle.design_fir.proofs.Taps.{taps-length}
use Rattle.design_fir.proofs.design_fir_lp_raw.Goals as goal

pub put_taps-requires-clause-few : goal.put_taps-requires-clause-few
put_taps-requires-clause-few c = (good-fir _ _ (sym c.in_ok-validate_fir.ensures)).1

pub put_taps-requires-clause-room : goal.put_taps-requires-clause-room
put_taps-requires-clause-room c = (good-fir _ _ (sym c.in_ok-validate_fir.ensures)).1

pub returns : goal.returns
unfolding fir_lp holding of_bits
returns c =
    let blank = c.blank.ensures in
    rw (
      ← c.in_ok-validate_fir.ensures,
      c.put_taps.ensures,
      drop-replicate,
      c.from.ensures,
      ap (λ (r : TapsRecord). r.samples) blank,
      ap (λ (r : TapsRecord). r.held) blank,
      taps-length c.args.window c.args.taps c.args.cutoff,
    )
