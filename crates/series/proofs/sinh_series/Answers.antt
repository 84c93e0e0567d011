-- `series::sinh_series` meets its contract.
use mathlib.Core.Path.{◌∙◌}
use Prim.Native.Nat.{◌+◌, ◌*◌}
use borrow.Author.Rules.{rules}
use Rattle.series.specs.Series.{inv_fact}
use Rattle.series.proofs.Turns.{sinh-all}
use Rattle.series.proofs.sinh_series.Goals as goal

pub returns : goal.returns
returns c = c.horner.ensures (λ i. inv_fact (2 * i + 3)) (λ i y h p. search rules) ∙ sinh-all c.args.s
