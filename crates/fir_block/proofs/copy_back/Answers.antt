-- `fir_block::copy_back` meets its contract.
use Rattle.std.proofs.Common.{sym, arith}
use Rattle.std.proofs.lemmas.List.{get_or-reverse}
use Rattle.std.specs.Float.{nan}
use Rattle.lists.proofs.Overwriting.{overwrite-turn}
use Rattle.fir_block.proofs.copy_back.Goals as goal

pub loop-i-preserved : goal.loop-i-preserved
loop-i-preserved c =
    overwrite-turn _ _ nan (omega arith) (omega arith) (sym (get_or-reverse c.args.from.now c.loop-i.i nan (omega arith))) c.loop-i.invariant
