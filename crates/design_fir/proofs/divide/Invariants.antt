-- `design_fir::divide` meets its contract.
use mathlib.Core.List.{map}
use lib.ListN.{length, take}
use lib.Ieee.{Float}
use Rattle.scalar.specs.Operators.{◌⊘◌}
use Rattle.lists.proofs.Overwriting.{Overwriting}
use Rattle.design_fir.proofs.divide.Given as goal

abbrev pub invariant-loop-c : goal.invariant-loop-c
invariant-loop-c l =
    let n = length l.initial.coeffs in
    Overwriting l.initial.coeffs 0 (map (λ (x : Float). x ⊘ l.sum) (take n l.initial.coeffs)) n l.coeffs l.c-index
