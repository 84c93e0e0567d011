-- `text_numbers::named` meets its contract.
use Rattle.std.proofs.Common.{rules, arith, ◌∙◌, codes}
use Rattle.std.proofs.lemmas.Grind.{common_steps}
use Rattle.std.proofs.lemmas.Slice.Eq.{text_from_reads}
use Rattle.std.specs.Float.Ieee.{of_bits}
use Rattle.text_numbers.proofs.Numbers.{named-nan, named-inf, named-minus-inf, named-other}
use Rattle.text_numbers.proofs.named.Goals as goal

pub returns-in-NaN : goal.returns-in-NaN
unfolding of_bits
returns-in-NaN c = named-nan _ (text_from_reads c.args.token.now (codes "NaN") (omega arith) (search rules))

pub returns-in-inf : goal.returns-in-inf
unfolding of_bits
returns-in-inf c = named-inf _ (text_from_reads c.args.token.now (codes "inf") (omega arith) (search rules))

pub returns-in-45 : goal.returns-in-45
unfolding of_bits
returns-in-45 c = named-minus-inf _ (text_from_reads c.args.token.now (codes "-inf") (omega arith) (search rules))

pub returns-in_default : goal.returns-in_default
returns-in_default c =
    c.signed.ensures ∙ named-other c.args.token.now (λ e. grind (arith, common_steps)) (λ e. grind (arith, common_steps)) (λ e. grind (arith, common_steps))
