-- Half the exponent: the record that `root_of_digits` hands on, from what `nearest_root` ensures. And a step of the loop that brings a subnormal's digits up.
use mathlib.Core.Path.{◌≡◌, sym, ap, ◌∙◌}
use Prim.Native.Nat.{ℕ, zero, suc, ◌+◌, ◌-◌, ◌*◌, ◌/◌, ◌%◌, ◌^◌, ◌≤◌, ◌<◌}
use native.Mathlib.Nat.{mul_assoc, pow-succ', mul-one}
use native.Mathlib.Omega.{arith}
use lib.Pow.{pow-add}
use Rattle.ieee.specs.Digits.{NearestRoot, Rooted}

shift : (m i j : ℕ) → m * 2 ^ i * 2 ^ j ≡ m * 2 ^ (i + j)
shift m i j = mul_assoc m (2 ^ i) (2 ^ j) ∙ ap (λ (z : ℕ). m * z) (sym (pow-add 2 i j))

square : (m d e k : ℕ) → k + k + d ≡ e + 970 → m * 2 ^ d * 2 ^ 52 * 2 ^ (k + k) ≡ m * 2 ^ e * 2 ^ 1022
square m d e k h =
    ap (λ (z : ℕ). z * 2 ^ (k + k)) (shift m d 52) ∙ shift m (d + 52) (k + k) ∙ ap (λ (z : ℕ). m * 2 ^ z) (omega arith) ∙ sym (shift m e 1022)

-- the exponent e is halved to k, with the digits n = m * 2 ^ d doubled (d = 1) where e is odd
halved : (m d e n q : ℕ) → n ≡ m * 2 ^ d → 2 ^ 52 ≤ n → e ≤ 2098 → e / 2 + 485 + (e / 2 + 485) + d ≡ e + 970 → NearestRoot n q
    → Rooted (m * 2 ^ e) ((e / 2 + 485) * 2 ^ 52 % 2 ^ 64 + q)
halved m d e n q s l b h r = record {
  q = q;
  k = e / 2 + 485;
  M = n * 2 ^ 52;
  bits = omega arith;
  least = r.least;
  most = r.most;
  exponent = omega arith;
  square = ap (λ (z : ℕ). z * 2 ^ 52 * 2 ^ (e / 2 + 485 + (e / 2 + 485))) s ∙ square m d e (e / 2 + 485) h;
  start = omega arith;
  below = r.below;
  above = r.above;
}

pub at-even : (m e q : ℕ) → 2 ^ 52 ≤ m → e ≤ 2098 → e % 2 ≡ 0 → NearestRoot m q → Rooted (m * 2 ^ e) ((e / 2 + 485) * 2 ^ 52 % 2 ^ 64 + q)
at-even m e q l b p = halved m 0 e m q (sym (mul-one m)) l b (omega arith)

pub at-odd : (m e q : ℕ) → 2 ^ 52 ≤ m → e ≤ 2098 → (e % 2 ≡ 0 → ⊥) → NearestRoot (m + m) q → Rooted (m * 2 ^ e) ((e / 2 + 485) * 2 ^ 52 % 2 ^ 64 + q)
at-odd m e q l b p = halved m 1 e (m + m) q (omega arith) (omega arith) b (omega arith)

-- a subnormal's digits
pub some_left : (m b e : ℕ) → m * 2 ^ e ≡ b * 2 ^ 52 → 0 < b → m < 2 ^ 52 → 1 ≤ e
some_left m b zero h p l = absurd (omega arith)
some_left m b (suc e) h p l = omega arith

pub one_up : (m b e : ℕ) → m * 2 ^ e ≡ b * 2 ^ 52 → 1 ≤ e → (m + m) * 2 ^ (e - 1) ≡ b * 2 ^ 52
one_up m b zero h p = absurd (omega arith)
one_up m b (suc e) h p = ap (λ (z : ℕ). (m + m) * 2 ^ z) {y = e} (omega arith) ∙ (omega arith) ∙ ap (λ (z : ℕ). m * z) (sym (pow-succ' 2 e)) ∙ h
