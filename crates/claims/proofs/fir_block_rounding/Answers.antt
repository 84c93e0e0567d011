-- `claims::fir_block_rounding` meets its contract: the numbers of a tap record of the code are values of f64.
use lib.Ieee.{binary64}
use borrow.Author.Rules.{rules}
use Rattle.exact.proofs.Arrays.{array-values}
use Rattle.fir.specs.View.{taps_view}
use Rattle.claims.proofs.Rounding.{Owned, block_within}
use Rattle.claims.proofs.fir_block_rounding.Goals as goal

pub returns : goal.returns
returns c =
    let r = taps_view c.args.start in
    let own = c.well_formed.0.1.1 in
    let o : Owned r = record {
      places = search rules;
      taps = array-values binary64 c.args.start.taps _ own.0.1.1;
      samples = array-values binary64 c.args.start.samples _ own.1.0.1.1;
    } in
    record { answers_within = λ input h t v d. block_within r o h input t v d }
