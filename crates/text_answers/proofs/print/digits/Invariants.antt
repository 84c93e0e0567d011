-- `text_answers::print::digits` meets its contract.
use Rattle.text_answers.proofs.Texts.{Writing}
use Rattle.text_answers.proofs.print.digits.Given as goal

abbrev pub invariant-loop-i : goal.invariant-loop-i
invariant-loop-i g l = Writing l.base l.fn.n g.row.N l.text l.i l.n
