-- Demand 2's claim about IEEE 754, over the definitions of the crate `ieee`. `add`, `sub`, `mul` and `div` are what the language's own operators are defined
-- to do at each format: `Ieee754` of src/operators.rt has the claim of the operators. `sqrt_of` is what `ieee::sqrt` returns.
use Rattle.std.specs.Prelude.{◌≡◌, Bool, ℕ, ◌*◌, ◌≤◌, ◌<◌, Float}
use Rattle.std.specs.Float.{inf, Format}
use Rattle.std.specs.Float.Ieee.{add, sub, mul, div}
use Rattle.ieee.specs.Nearest.{Nearest, fraction, edge_num, edge_den}
use Rattle.ieee.specs.Arithmetic.{Sum, Difference, Product, Quotient}
use Rattle.ieee.specs.Sqrt.{Sqrt, sqrt_of}

-- at both formats, for all operands
pub record MeetsIeee754 : Type 0 where
  pub sums : (f : Format) (x y : Float) → Sum f x y (add f x y)
  pub differences : (f : Format) (x y : Float) → Difference f x y (sub f x y)
  pub products : (f : Format) (x y : Float) → Product f x y (mul f x y)
  pub quotients : (f : Format) (x y : Float) → Quotient f x y (div f x y)
  pub roots : (f : Format) (x : Float) → Sqrt f x (sqrt_of f x)

-- a result that meets IEEE 754 is the only one that does
pub record Determined : Type 0 where
  pub sum : (f : Format) (x y r r' : Float) → Sum f x y r → Sum f x y r' → r ≡ r'
  pub difference : (f : Format) (x y r r' : Float) → Difference f x y r → Difference f x y r' → r ≡ r'
  pub product : (f : Format) (x y r r' : Float) → Product f x y r → Product f x y r' → r ≡ r'
  pub quotient : (f : Format) (x y r r' : Float) → Quotient f x y r → Quotient f x y r' → r ≡ r'
  pub root : (f : Format) (x r r' : Float) → Sqrt f x r → Sqrt f x r' → r ≡ r'

-- the nearest value to a / b is an infinity exactly where a / b is 2 ^ emax * (2 - 2 ^ -prec) or more
pub record OverflowsAtMidpoint : Type 0 where
  pub from : (f : Format) (s : Bool) (a b : ℕ) (r : Float) → 0 < b → Nearest f (fraction a b) s r → edge_num f * b ≤ a * edge_den f → r ≡ inf s
  pub only : (f : Format) (s : Bool) (a b : ℕ) (r : Float) → 0 < b → Nearest f (fraction a b) s r → r ≡ inf s → edge_num f * b ≤ a * edge_den f
