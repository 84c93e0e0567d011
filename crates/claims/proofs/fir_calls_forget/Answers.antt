-- `claims::fir_calls_forget` meets its contract: the arrays of a tap record have 64 places.
use mathlib.Core.Path.{◌≡◌}
use lib.ListN.{length}
use lib.Ieee.{binary64}
use borrow.Author.Rules.{rules}
use Rattle.runs.proofs.Forgetting.{forgets-shown}
use Rattle.fir_theory.specs.Fir.{taps_of, fir}
use Rattle.limits.specs.Limits.{max_taps}
use Rattle.fir.specs.View.{taps_view}
use Rattle.fir_theory.specs.Plain.{plain_fir}
use Rattle.fir_theory.proofs.Forgetting.{forgets}
use Rattle.claims.proofs.Calls.{shown}
use Rattle.claims.proofs.fir_calls_forget.Goals as goal

pub returns : goal.returns
returns c =
    let taps : length c.args.start.taps ≡ max_taps = search rules in
    let samples : length c.args.start.samples ≡ max_taps = search rules in
    let r = taps_view c.args.start in
    record {
      shows = λ calls outcomes l. shown (fir max_taps binary64) taps_view l;
      forgets = λ calls outcomes l. forgets-shown (fir max_taps binary64) (plain_fir binary64) taps_of r calls (shown (fir max_taps binary64) taps_view l)
          (forgets max_taps binary64 r taps samples calls);
    }
