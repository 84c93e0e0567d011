-- One value is written in one way, and differences of natural numbers as exponents.
use mathlib.Core.Path.{◌≡◌, refl, sym, ap, ◌∙◌}
use mathlib.Core.Bool.{Bool, true, false, not, cond}
use Prim.Native.Nat.{ℕ, suc, ◌+◌, ◌-◌, ◌*◌, ◌≤◌, ◌<◌}
use native.Mathlib.Nat.{le_of_eq, mul_right_comm, eq_of_mul-eq-mul_right}
use native.Mathlib.Omega.{arith}
use lib.IntN.{pos, negsuc, ◌+ℤ◌}
use lib.Dec.{T, ltb, leb, leb→le, nleb→lt, ltb→lt, nltb→le}
use lib.Ieee.{Float, binary64, fits, minus}
use lib.Ieee.Exact.{HasValue}
use Rattle.ieee.specs.Nearest.{num, den}
use Rattle.ieee.proofs.Grid.{signed, counted}
use Rattle.ieee.proofs.Unique.{same_size}

-- two fractions that are both a / c are equal
cross : (x y de dd a c : ℕ) → 0 < c → x * c ≡ a * de → y * c ≡ a * dd → x * dd ≡ y * de
cross x y de dd a c C p q =
    eq_of_mul-eq-mul_right c C (x * dd) (y * de)
    (mul_right_comm x dd c ∙ ap (λ (z : ℕ). z * dd) p ∙ mul_right_comm a de dd ∙ ap (λ (z : ℕ). z * de) (sym q) ∙ mul_right_comm y c de)

pub unique : (x y : Float) (s : Bool) (a c : ℕ) → 0 < c → T (fits binary64 x) → T (fits binary64 y) → HasValue x s a c → HasValue y s a c → x ≡ y
unique x y s a c C p q v w =
    same_size binary64 s x y p q (signed s x a c v) (signed s y a c w)
    (cross (num binary64 x) (num binary64 y) (den x) (den y) a c C (counted binary64 s x a c v) (counted binary64 s y a c w))

-- ---- a - b, of two natural numbers
pub minus-same : (a b c d : ℕ) → a + d ≡ c + b → minus a b ≡ minus c d
minus-same a b c d h = go (leb b a) (leb d c) (leb→le b a) (nleb→lt b a) (leb→le d c) (nleb→lt d c)
  where
    go : (p q : Bool) → (T p → b ≤ a) → (T (not p) → a < b) → (T q → d ≤ c) → (T (not q) → c < d)
        → cond p (pos (a - b)) (negsuc (b - suc a)) ≡ cond q (pos (c - d)) (negsuc (d - suc c))
    go true true x y z w = let u = x tt in let v = z tt in ap pos (omega arith)
    go true false x y z w = let u = x tt in let v = w tt in absurd (omega arith)
    go false true x y z w = let u = y tt in let v = z tt in absurd (omega arith)
    go false false x y z w = let u = y tt in let v = w tt in ap negsuc (omega arith)

pub minus_pos : (n b : ℕ) → minus (n + b) b ≡ pos n
minus_pos n b = go (leb b (n + b)) (nleb→lt b (n + b))
  where
    go : (p : Bool) → (T (not p) → n + b < b) → cond p (pos (n + b - b)) (negsuc (b - suc (n + b))) ≡ pos n
    go true h = ap pos (omega arith)
    go false h = let u = h tt in absurd (omega arith)

pub minus-neg : (n b : ℕ) → n < b → minus (b - suc n) b ≡ negsuc n
minus-neg n b l = go (leb b (b - suc n)) (leb→le b (b - suc n))
  where
    go : (p : Bool) → (T p → b ≤ b - suc n) → cond p (pos (b - suc n - b)) (negsuc (b - suc (b - suc n))) ≡ negsuc n
    go true h = let u = h tt in absurd (omega arith)
    go false h = ap negsuc (omega arith)

pub minus-zero : (s : ℕ) → minus 0 (suc s) ≡ negsuc s
minus-zero s = minus-same 0 (suc s) (suc s - suc s) (suc s) (omega arith) ∙ minus-neg s (suc s) (le_of_eq refl)

-- -(k + 1) + s
pub sum_is : (s k : ℕ) → negsuc k +ℤ pos s ≡ minus s (suc k)
sum_is s k = go (ltb s (suc k)) (leb (suc k) s) (ltb→lt s (suc k)) (nltb→le s (suc k)) (leb→le (suc k) s) (nleb→lt (suc k) s)
  where
    go : (p q : Bool) → (T p → s < suc k) → (T (not p) → suc k ≤ s) → (T q → suc k ≤ s) → (T (not q) → s < suc k)
        → cond p (negsuc (suc k - suc s)) (pos (s - suc k)) ≡ cond q (pos (s - suc k)) (negsuc (suc k - suc s))
    go true true x y z w = let a = x tt in let b = z tt in absurd (omega arith)
    go true false x y z w = refl
    go false true x y z w = refl
    go false false x y z w = let a = y tt in let b = w tt in absurd (omega arith)
