-- `fir_block::copy_back` meets its contract.
use Rattle.std.proofs.Common.{length}
use Rattle.std.specs.Prelude.{reverse}
use Rattle.lists.proofs.Overwriting.{Overwriting}
use Rattle.fir_block.proofs.copy_back.Given as goal

abbrev pub invariant-loop-i : goal.invariant-loop-i
invariant-loop-i l = Overwriting l.initial.to 0 (reverse l.from) (length l.from) l.to l.i
