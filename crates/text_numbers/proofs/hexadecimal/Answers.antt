-- `text_numbers::hexadecimal` meets its contract.
use Rattle.std.proofs.Common.{arith, ◌∙◌, sym}
use Rattle.text_decimals.proofs.Digits.{value-cons, value-all}
use Rattle.text_numbers.proofs.Numbers.{hex-fits}
use Rattle.text_numbers.proofs.hexadecimal.Goals as goal

pub overflow_mul-value : goal.overflow_mul-value
overflow_mul-value c = omega (arith, hex-fits _ _ _ c.requires c.loop-b-test.true c.loop-b.invariant)

pub overflow_add-value : goal.overflow_add-value
overflow_add-value c = omega (arith, hex-fits _ _ _ c.requires c.loop-b-test.true c.loop-b.invariant, c.digit.ensures.value)

pub loop-b-preserved : goal.loop-b-preserved
loop-b-preserved c = rw (c.digit.ensures.value, ← value-cons _ _ _ _ c.loop-b-test.true) c.loop-b.invariant

pub returns : goal.returns
returns c = sym (value-all _ _ _ _ c.loop-b-test.false) ∙ c.loop-b.invariant
