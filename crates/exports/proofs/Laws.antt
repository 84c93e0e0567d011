-- A number that no function has gives NaN.
use Rattle.std.proofs.Common.{◌≡◌, ℕ, ◌≤◌, arith}
use lib.Ieee.{Float, nan}
use Rattle.std.proofs.lemmas.Bool.Decides.{nat_tests}
use Rattle.scalar.proofs.NaN.{constants}
use Rattle.exports.specs.Numbered.{numbered}

pub numbered-none : (n : ℕ) (x : Float) → 12 ≤ n → numbered n x ≡ nan
unfolding numbered
numbered-none n x h = grind (arith, nat_tests)

pub ruleset none_rules = (numbered-none, constants)
