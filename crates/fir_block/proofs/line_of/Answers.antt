-- `fir_block::line_of` meets its contract.
use Rattle.std.proofs.Common.{arith}
use Rattle.fir_theory.proofs.Line.{line-is}
use Rattle.fir_block.proofs.line_of.Goals as goal

pub returns-clause-filled : goal.returns-clause-filled
returns-clause-filled c = line-is _ _ _ _ (omega arith) c.copy_back.ensures c.copy_from_slice.ensures.after
