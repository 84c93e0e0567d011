-- The elementary functions by number.
use Rattle.std.specs.Prelude.{◌≡◌, ℕ, ◌≤◌, cond, eqb, Float, Result, MatchResult}
use Rattle.std.specs.Float.{binary64, nan}
use Rattle.ieee.specs.Sqrt.{sqrt_of}
use Rattle.scalar.specs.Sign.{abs_of, max_zero_of}
use Rattle.elementary.specs.Trigonometric.{sin_of, cos_of, tan_of}
use Rattle.elementary.specs.Exponential.{exp_of, pow10_of}
use Rattle.logarithm.specs.Logarithm.{ln_of}
use Rattle.hyperbolic.specs.Hyperbolic.{sinh_of, cosh_of, arcsinh_of}
use Rattle.exports.specs.declared.Function.{Function}
use Rattle.exports.specs.declared.Function.TheVariants.{Sqrt, Abs, MaxZero, Sin, Cos, Tan, Exp, Pow10, Ln, Sinh, Cosh, Arcsinh}
use Rattle.exports.specs.declared.UnknownFunction.{UnknownFunction}

abbrev pub pick : ℕ → ℕ → Float → Float → Float
pick n k a b = cond (eqb n k) a b

unfoldable pub numbered : ℕ → Float → Float
numbered n x =
    pick n 0 (sqrt_of binary64 x)
    (pick n 1 (abs_of x)
    (pick n 2 (max_zero_of x)
    (pick n 3 (sin_of x)
    (pick n 4 (cos_of x)
    (pick n 5 (tan_of x)
    (pick n 6 (exp_of x)
    (pick n 7 (pow10_of x)
    (pick n 8 (ln_of x)
    (pick n 9 (sinh_of x)
    (pick n 10 (cosh_of x)
    (pick n 11 (arcsinh_of x) nan)))))))))))

-- the number of a function
abbrev pub number : Function → ℕ
number Sqrt = 0
number Abs = 1
number MaxZero = 2
number Sin = 3
number Cos = 4
number Tan = 5
number Exp = 6
number Pow10 = 7
number Ln = 8
number Sinh = 9
number Cosh = 10
number Arcsinh = 11

-- the function with that number, or the number where no function has it
abbrev pub IsNumbered : ℕ → Result Function UnknownFunction → Type 0
IsNumbered n r = MatchResult r (λ function. number function ≡ n) (λ e. (e.0 ≡ n) × (12 ≤ n))
