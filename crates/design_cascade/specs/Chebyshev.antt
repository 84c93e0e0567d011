-- 001's poles, operation by operation in the Rust's order.
use Rattle.std.specs.Prelude.{ℕ, ◌+◌, ◌*◌, Float}
use Rattle.std.specs.Float.{binary64}
use Rattle.std.specs.Float.Ieee.{neg}
use Rattle.ieee.specs.Sqrt.{sqrt_of}
use Rattle.scalar.specs.Operators.{◌⊕◌, ◌⊖◌, ◌⊗◌, ◌⊘◌, bits, nat}
use Rattle.scalar.specs.Constants.{one, two, pi}
use Rattle.scalar.specs.Sign.{abs_of}
use Rattle.elementary.specs.Trigonometric.{sin_of, cos_of}
use Rattle.elementary.specs.Exponential.{pow10_of}
use Rattle.hyperbolic.specs.Hyperbolic.{sinh_of, cosh_of, arcsinh_of}
use Rattle.cascade_theory.specs.Section.{SectionRecord}
use Rattle.design_poles.specs.Chebyshev.{cheb1_biquad, cheb2_biquad}
use Rattle.design_cascade.specs.declared.prototype.Ellipse.{Ellipse}
use Rattle.design_cascade.specs.declared.prototype.Prototype.{Prototype}
use Rattle.design_cascade.specs.declared.prototype.Prototype.TheVariants.{ChebyshevI, ChebyshevII}

abbrev pub ten : Float
ten = bits 0x4024000000000000

-- θ = (PI × (2m + 1))/(2 × N)
unfoldable pub theta_of : ℕ → ℕ → Float
theta_of n m = (pi ⊗ nat (2 * m + 1)) ⊘ (two ⊗ nat n)

-- type I: σ = (−sinh a) × sin θ, ω = cosh a × cos θ
pub record PolePairRecord : Type 0 where
  pub sigma : Float
  pub omega : Float
  pub cos_theta : Float

unfoldable pub pole_of : ℕ → ℕ → Ellipse → PolePairRecord
pole_of n m e =
    let theta = theta_of n m in
    record { sigma = neg e.sinh_a ⊗ sin_of theta; omega = e.cosh_a ⊗ cos_of theta; cos_theta = cos_of theta }

unfoldable pub cheb1_pair : ℕ → ℕ → Ellipse → Float → SectionRecord
cheb1_pair n m e k =
    let p = pole_of n m e in
    cheb1_biquad p.sigma p.omega k

-- type II: the inversion σ/|s|², (−ω)/|s|², and the zero 1/|cos θ|
unfoldable pub cheb2_pair : ℕ → ℕ → Ellipse → Float → SectionRecord
cheb2_pair n m e k =
    let p = pole_of n m e in
    let mag = p.sigma ⊗ p.sigma ⊕ p.omega ⊗ p.omega in
    cheb2_biquad (p.sigma ⊘ mag) (neg p.omega ⊘ mag) (one ⊘ abs_of p.cos_theta) k

-- ε = √(10^(dB/10) − 1)
unfoldable pub epsilon_of : Float → Float
epsilon_of db = sqrt_of binary64 (pow10_of (db ⊘ ten) ⊖ one)

-- a = arcsinh(x)/N, x being 1/ε for type I and ε for type II
unfoldable pub ellipse_of : ℕ → Float → Ellipse
ellipse_of n x =
    let a = arcsinh_of x ⊘ nat n in
    record { sinh_a = sinh_of a; cosh_a = cosh_of a }

unfoldable pub cheb1_prototype : ℕ → Float → Float → Prototype
cheb1_prototype n db k = ChebyshevI (ellipse_of n (one ⊘ epsilon_of db)) k

unfoldable pub cheb2_prototype : ℕ → Float → Float → Prototype
cheb2_prototype n db k = ChebyshevII (ellipse_of n (epsilon_of db)) k
