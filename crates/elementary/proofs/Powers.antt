-- Powers of two by their bit patterns.
use Rattle.std.proofs.Common.{◌≡◌, ℕ, zero, suc, ◌+◌, ◌-◌, ◌*◌, ◌/◌, ◌%◌, ◌^◌, ◌<◌, false, ℤ, pos, negsuc, refl, ap, ◌∙◌, lt_irrefl}
use Rattle.std.proofs.Common.{not, T, mul-div_cancel, arith, lit<, w64, SFits, to_z, of_z}
use native.Mathlib.Nat.{mul-mod_left}
use lib.Ieee.{fin, binary64, minus, odd, of_bits, nan_bits}
use lib.IntN.{nat_abs, ◌+ℤ◌}
use mir.ValLaws.{to_z-of_z}
use Rattle.ieee.proofs.Patterns.{normal, below_no_nan}
use Rattle.elementary.specs.Exponential.{Scale, pow2}
use Rattle.scalar.proofs.Values.{minus-same, minus_pos, minus-neg, sum_is}

pub biased-below : (b : ℕ) → b < 2047 → b * 2 ^ 52 < 2047 * 2 ^ 52
biased-below b h = omega arith

pub biased-is : (b : ℕ) → 0 < b → b < 2047 → of_bits binary64 (b * 2 ^ 52) ≡ fin false 1 (minus b 1023)
biased-is zero h B = absurd (lt_irrefl 0 h)
biased-is (suc x) h B =
    normal (suc x * 2 ^ 52) (omega arith) (biased-below (suc x) B)
    ∙ ap (λ (z : ℕ). odd 53 false (2 ^ 52 + z) (suc x * 2 ^ 52 / 2 ^ 52 - 1) 1074) (mul-mod_left (suc x) (2 ^ 52))
    ∙ ap (λ (z : ℕ). odd 53 false (2 ^ 52) (z - 1) 1074) (mul-div_cancel (suc x) (lit< tt))
    ∙ whole (suc x - 1)
    ∙ ap (fin false 1) (minus-same (suc x - 1 + 52) 1074 (suc x) 1023 (omega arith))
  where
    whole : (k : ℕ) → odd 53 false (2 ^ 52) k 1074 ≡ fin false 1 (minus (k + 52) 1074)
    whole k = unfold odd in refl

-- ---- the exponent's field of 2 to the k
abbrev pub field : ℤ → ℕ
field (pos n) = n + 1023
field (negsuc n) = 1022 - n

field-least : (k : ℤ) → Scale k → 0 < field k
field-least (pos n) h = omega arith
field-least (negsuc n) h = omega arith

field-most : (k : ℤ) → Scale k → field k < 2047
field-most (pos n) h = omega arith
field-most (negsuc n) h = omega arith

field-sum : (k : ℤ) → Scale k → k +ℤ pos 1023 ≡ pos (field k)
field-sum (pos n) h = refl
field-sum (negsuc n) h =
    let e : 1023 ≡ 1022 - n + suc n = omega arith in
    sum_is 1023 n ∙ ap (λ (z : ℕ). minus z (suc n)) e ∙ minus_pos (1022 - n) (suc n)

-- the bits as the machine works them out
module _ (k : ℤ) (f : SFits w64 k) (h : Scale k) where
  pub field-bits : nat_abs (to_z w64 (of_z w64 (to_z w64 (of_z w64 k) +ℤ pos 1023))) * 2 ^ 52 % 2 ^ 64 ≡ field k * 2 ^ 52
  field-bits =
      let most = field-most k h in
      let fits : SFits w64 (pos (field k)) = record { sfits = omega arith } in
      rw (to_z-of_z w64 k f, field-sum k h, to_z-of_z w64 (pos (field k)) fits) (omega arith)

  pub power-number : T (not (nan_bits binary64 (nat_abs (to_z w64 (of_z w64 (to_z w64 (of_z w64 k) +ℤ pos 1023))) * 2 ^ 52 % 2 ^ 64)))
  power-number = rw field-bits (below_no_nan (field k * 2 ^ 52) (biased-below (field k) (field-most k h)))

  pub power-value : of_bits binary64 (nat_abs (to_z w64 (of_z w64 (to_z w64 (of_z w64 k) +ℤ pos 1023))) * 2 ^ 52 % 2 ^ 64) ≡ pow2 k
  power-value = rw field-bits (biased-is (field k) (field-least k h) (field-most k h) ∙ ap (fin false 1) (go k h))
    where
      go : (k : ℤ) → Scale k → minus (field k) 1023 ≡ k
      go (pos n) h = minus_pos n 1023
      go (negsuc n) h = let e : 1022 - n ≡ 1023 - suc n = omega arith in
          ap (λ (z : ℕ). minus z 1023) e ∙ minus-neg n 1023 (omega arith)

pub ruleset power_rules = (power-number, power-value)
