-- `claims::fir_rounding` meets its contract: the numbers of a tap record of the code, and the sample, are values of f64.
use mathlib.Core.Path.{sym, ap, subst}
use lib.Ieee.{binary64}
use borrow.Author.Rules.{rules}
use Rattle.exact.specs.Scaled.{IsValue}
use Rattle.exact.proofs.Arrays.{array-values}
use Rattle.runs.specs.Runs.{Answer, Step}
use Rattle.fir_theory.specs.Fir.{TapsRecord}
use Rattle.fir_rounding.specs.Figure.{figure_bits, Within}
use Rattle.fir.specs.View.{taps_view}
use Rattle.claims.proofs.Rounding.{Owned, step-within}
use Rattle.claims.proofs.fir_rounding.Goals as goal

pub returns : goal.returns
returns c =
    let x = c.args.x in
    let r = taps_view c.args.start in
    let own = c.well_formed.0.1.1 in
    let o : Owned r = record {
      places = search rules;
      taps = array-values binary64 c.args.start.taps _ own.0.1.1;
      samples = array-values binary64 c.args.start.samples _ own.1.0.1.1;
    } in
    let v : IsValue binary64 x = search rules in
    record {
      run_step = λ h t. step-within r o h x v t;
      update = λ u e h t.
          subst (λ (a : Answer). Within binary64 figure_bits r x a) (sym (ap (λ (s : Step TapsRecord). s.answer) e)) (step-within r o h x v t);
    }
