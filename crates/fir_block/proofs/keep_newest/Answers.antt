-- `fir_block::keep_newest` meets its contract.
use Rattle.std.proofs.Common.{refl, ◌∙◌, arith}
use Rattle.std.proofs.lemmas.List.{take_rest}
use Rattle.fir_theory.proofs.Line.{newest-line, newest-many}
use Rattle.fir_block.proofs.keep_newest.Goals as goal

pub returns-then-m-n : goal.returns-then-m-n
returns-then-m-n c = c.copy_back.ensures ∙ newest-line _ _ _ _ refl (c.requires.filled (omega arith))

pub returns-else-m-n : goal.returns-else-m-n
returns-else-m-n c = rw take_rest at c.copy_back-else-m-n.ensures ∙ newest-many _ _ _ c.if-m-n.false
