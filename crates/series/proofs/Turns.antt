-- Horner's loop, from the highest coefficient down, and the series that it sums.
use mathlib.Core.Path.{◌≡◌, refl}
use Prim.Native.Nat.{ℕ, suc, ◌+◌, ◌-◌, ◌*◌, ◌%◌, ◌≤◌, ◌<◌}
use native.Mathlib.Omega.{arith}
use native.Mathlib.Nat.{add-zero}
use mathlib.Core.Bool.{cond}
use lib.Dec.{eqb}
use lib.Ieee.{Float, neg}
use Rattle.scalar.specs.Operators.{◌⊕◌, ◌⊗◌}
use Rattle.series.specs.Series.{horner, horner_from, inv_fact, inv, alternating_of, exp_series, ln_series, sinh_series}

-- before the first turn, and at each
module _ (c : ℕ → Float) (s p : Float) where
  pub from-start : (n : ℕ) → p ≡ c n → p ≡ horner_from c s (n - n) n
  unfolding horner_from
  from-start n e = let z : n - n ≡ 0 = omega arith in rw z e

  pub from-turn : (n j : ℕ) {x : Float} → 0 < j → j ≤ n → x ≡ c (j - 1) → p ≡ horner_from c s (n - j) j → x ⊕ s ⊗ p ≡ horner_from c s (n - (j - 1)) (j - 1)
  unfolding horner_from
  from-turn n j h l e f =
      let m : n - (j - 1) ≡ suc (n - j) = omega arith in
      let k : suc (j - 1) ≡ j = omega arith in
      rw (m, e, f, k)

pub exp-all : (r : Float) → horner_from inv_fact r 13 0 ≡ exp_series r
unfolding horner_from exp_series horner
exp-all r = refl

pub ln-all : (s : Float) → horner_from (λ i. inv (2 * i + 1)) s 10 0 ≡ ln_series s
unfolding horner_from ln_series horner
ln-all s = refl

pub sinh-all : (s : Float) → horner_from (λ i. inv_fact (2 * i + 3)) s 7 0 ≡ sinh_series s
unfolding horner_from sinh_series horner
sinh-all s = refl

-- the signs of sin and cos, whose lowest coefficient is below 0
unfoldable pub turned : ℕ → Float → Float
turned i x = cond (eqb (i % 2) 0) (neg x) x

pub alternating-all : (k : ℕ) (s : Float) → horner_from (λ i. turned i (inv_fact (k + 2 * i))) s 7 0 ≡ alternating_of k s
unfolding horner_from alternating_of horner turned
alternating-all k s = rw add-zero
