-- `text_decimals::decimal_after` meets its contract.
use Rattle.text_decimals.proofs.Digits.{Capping}
use Rattle.text_decimals.proofs.decimal_after.Given as goal

abbrev pub invariant-loop-b : goal.invariant-loop-b
invariant-loop-b l = Capping l.fn.n l.digits l.n l.b-index
