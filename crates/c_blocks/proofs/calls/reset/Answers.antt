-- `c_blocks::calls::reset` meets its contract.
use Rattle.c_blocks.proofs.Laws.{reset-called}
use Rattle.c_blocks.proofs.calls.reset.Goals as goal

pub returns-clause-call : goal.returns-clause-call
returns-clause-call g c = reset-called _ _ _ _ c.reset.ensures.ran
