-- `series::ln_series` meets its contract.
use mathlib.Core.Path.{◌∙◌}
use Prim.Native.Nat.{◌+◌, ◌*◌}
use borrow.Author.Rules.{rules}
use Rattle.series.specs.Series.{inv}
use Rattle.series.proofs.Turns.{ln-all}
use Rattle.series.proofs.ln_series.Goals as goal

pub returns : goal.returns
returns c = c.horner.ensures (λ i. inv (2 * i + 1)) (λ i y h p. search rules) ∙ ln-all c.args.s
