-- `text_numbers::unsigned` meets its contract.
use Rattle.std.proofs.Common.{rules, arith, ◌∙◌}
use Rattle.std.proofs.lemmas.Grind.{common_steps}
use Rattle.std.proofs.lemmas.List.{take_rest}
use Rattle.std.proofs.lemmas.List.Sums.{prefix_len-le-length}
use Rattle.std.specs.Char.{is_ascii_digit}
use Rattle.text_numbers.proofs.Numbers.{after-whole, after-point, after-other, parted}
use Rattle.text_numbers.proofs.unsigned.Goals as goal

pub split_at-requires : goal.split_at-requires
split_at-requires c = omega (arith, c.leading_digits.ensures, prefix_len-le-length is_ascii_digit c.args.token.now)

pub returns-in-empty : goal.returns-in-empty
returns-in-empty c =
    c.decimal.ensures ∙ after-whole _ _ c.in-empty.len_below ∙ parted _ c.leading_digits.ensures c.split_at.ensures.front c.split_at.ensures.back

pub returns-then-not-is_empty : goal.returns-then-not-is_empty
returns-then-not-is_empty c =
    let a = rw take_rest at c.all_digits.ensures in
    (rw take_rest at c.decimal-then-not-is_empty.ensures) ∙ after-point _ _ (omega arith) (search rules) (grind arith) (grind (arith, common_steps))
    ∙ parted _ c.leading_digits.ensures c.split_at.ensures.front c.split_at.ensures.back

pub returns-else-all_digits : goal.returns-else-all_digits
returns-else-all_digits c =
    let a = rw take_rest at c.all_digits.ensures in
    after-other _ _ (omega arith) (λ e d l. grind (arith, common_steps)) ∙ parted _ c.leading_digits.ensures c.split_at.ensures.front c.split_at.ensures.back

pub returns-in_default : goal.returns-in_default
returns-in_default c =
    after-other _ _ (omega arith) (λ e d l. grind (arith, common_steps)) ∙ parted _ c.leading_digits.ensures c.split_at.ensures.front c.split_at.ensures.back
