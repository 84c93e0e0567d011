-- `text_numbers::hexadecimal` meets its contract.
use Rattle.text_numbers.proofs.Numbers.{Reading}
use Rattle.text_numbers.proofs.hexadecimal.Given as goal

abbrev pub invariant-loop-b : goal.invariant-loop-b
invariant-loop-b l = Reading l.digits l.value l.b-index
