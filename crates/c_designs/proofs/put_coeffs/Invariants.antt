-- `c_designs::put_coeffs` meets its contract.
use Rattle.std.proofs.Common.{length}
use Rattle.lists.proofs.Overwriting.{Overwriting}
use Rattle.c_designs.proofs.put_coeffs.Given as goal

abbrev pub invariant-loop-i : goal.invariant-loop-i
invariant-loop-i l = Overwriting l.initial.front 0 l.coeffs (length l.coeffs) l.front l.i
