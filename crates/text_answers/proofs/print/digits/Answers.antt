-- `text_answers::print::digits` meets its contract.
use Rattle.std.proofs.Common.{arith}
use Rattle.text_answers.proofs.Texts.{write-turn, write-done}
use Rattle.text_answers.proofs.print.digits.Goals as goal

pub loop-i-preserved : goal.loop-i-preserved
loop-i-preserved g c = write-turn _ _ _ _ _ _ _ (omega arith) (omega arith) c.glyph.ensures c.loop-i.invariant

pub returns : goal.returns
returns g c = write-done _ _ _ _ _ _ (omega arith) c.loop-i.invariant
