-- `text_decimals::decimal` meets its contract.
use Rattle.std.proofs.Common.{arith}
use Rattle.std.proofs.lemmas.Bool.Decides.{nat_tests}
use Rattle.text_decimals.specs.Decimals.{decimal}
use Rattle.text_decimals.proofs.Digits.{both_read}
use Rattle.text_decimals.proofs.decimal.Goals as goal

pub returns-then-is_empty : goal.returns-then-is_empty
unfolding decimal
returns-then-is_empty c = let e = both_read _ _ c.decimal_after-before.ensures c.decimal_after-value.ensures in grind (arith, nat_tests)

pub returns : goal.returns
unfolding decimal
returns c = let e = both_read _ _ c.decimal_after-before.ensures c.decimal_after-value.ensures in grind (arith, nat_tests)
