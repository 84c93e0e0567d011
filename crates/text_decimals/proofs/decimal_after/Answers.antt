-- `text_decimals::decimal_after` meets its contract.
use Rattle.text_decimals.proofs.Digits.{cap-turn, cap-done}
use Rattle.text_decimals.proofs.decimal_after.Goals as goal

pub loop-b-preserved : goal.loop-b-preserved
loop-b-preserved c =
    rw c.min-n.ensures (cap-turn _ _ _ _ _ c.loop-b-test.true c.digit.ensures.value c.loop-b.invariant)

pub returns : goal.returns
returns c = cap-done _ _ _ _ c.loop-b-test.false c.loop-b.invariant
