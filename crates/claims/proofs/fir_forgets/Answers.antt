-- `claims::fir_forgets` meets its contract: the arrays of a tap record have 64 places.
use mathlib.Core.Path.{◌≡◌}
use lib.ListN.{length}
use lib.Ieee.{binary64}
use borrow.Author.Rules.{rules}
use Rattle.limits.specs.Limits.{max_taps}
use Rattle.fir.specs.View.{taps_view}
use Rattle.fir_theory.proofs.Forgetting.{forgets}
use Rattle.claims.proofs.fir_forgets.Goals as goal

pub returns : goal.returns
returns c =
    let taps : length c.args.start.taps ≡ max_taps = search rules in
    let samples : length c.args.start.samples ≡ max_taps = search rules in
    record { of = forgets max_taps binary64 (taps_view c.args.start) taps samples }
