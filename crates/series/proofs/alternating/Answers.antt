-- `series::alternating` meets its contract.
use mathlib.Core.Path.{◌∙◌}
use Prim.Native.Nat.{◌+◌, ◌*◌}
use borrow.Author.Rules.{rules}
use Rattle.series.specs.Series.{inv_fact}
use Rattle.series.proofs.Turns.{turned, alternating-all}
use Rattle.series.proofs.alternating.Goals as goal

pub returns : goal.returns
unfolding turned
returns c = c.horner.ensures (λ i. turned i (inv_fact (c.args.k + 2 * i))) (λ i y h p. search rules) ∙ alternating-all c.args.k c.args.s
