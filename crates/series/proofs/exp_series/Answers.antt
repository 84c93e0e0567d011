-- `series::exp_series` meets its contract.
use mathlib.Core.Path.{◌∙◌}
use borrow.Author.Rules.{rules}
use Rattle.series.specs.Series.{inv_fact}
use Rattle.series.proofs.Turns.{exp-all}
use Rattle.series.proofs.exp_series.Goals as goal

pub returns : goal.returns
returns c = c.horner.ensures inv_fact (λ i y h p. search rules) ∙ exp-all c.args.r
