-- `text_decimals::power_of_ten` meets its contract.
use mathlib.Core.Path.{◌∙◌}
use Rattle.text_decimals.proofs.Powers.{table, rule}
use borrow.Author.Rules.{rules}
use Rattle.text_decimals.proofs.power_of_ten.Goals as goal

pub returns : goal.returns
unfolding table
returns c = c.from_bits.ensures ∙ rule c.args.k (search rules)
