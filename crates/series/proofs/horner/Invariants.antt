-- `series::horner` meets its contract. The loop's invariant: the coefficients from place i on are summed.
use mathlib.Core.Path.{◌≡◌}
use Prim.Native.Nat.{ℕ, ◌-◌, ◌≤◌}
use lib.Ieee.{Float}
use Rattle.series.specs.Series.{horner_from}
use Rattle.series.proofs.horner.Given as goal

abbrev pub invariant-loop-i : goal.invariant-loop-i
invariant-loop-i g l =
    (c : ℕ → Float) → ((i : ℕ) (y : Float) → i ≤ l.n → goal.F-post g l.coefficient i y → y ≡ c i) → l.p ≡ horner_from c l.s (l.n - l.i) l.i
