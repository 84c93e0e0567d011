-- `text_numbers::signed` meets its contract.
use Rattle.std.proofs.Common.{rules, arith, ◌≡◌, ◌∙◌, ap}
use Rattle.std.proofs.lemmas.Grind.{common_steps}
use Rattle.std.proofs.lemmas.List.{take_rest}
use Rattle.std.specs.Float.Ieee.{neg}
use Rattle.std.specs.Option.{option_map}
use Rattle.text_numbers.proofs.Numbers.{signed-minus, signed-plain}
use Rattle.text_numbers.proofs.signed.Goals as goal

pub returns-in-45 : goal.returns-in-45
returns-in-45 c =
    let m : c.map.result ≡ option_map neg c.unsigned.result = search rules in
    m ∙ ap (option_map neg) (rw take_rest at c.unsigned.ensures) ∙ signed-minus c.args.token.now (omega arith) (search rules)

pub returns-in_default : goal.returns-in_default
returns-in_default c = c.unsigned-in_default.ensures ∙ signed-plain c.args.token.now (λ l e. grind (arith, common_steps))
