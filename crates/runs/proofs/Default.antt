-- 02's Q-3: what a default form returns, case by case, and what it means that it accepts.
use mathlib.Core.Path.{◌≡◌, refl, sym, ap, ◌∙◌}
use mathlib.Core.Bool.{Bool, true, false, not, ◌&&◌, cond}
use Prim.Native.Nat.{ℕ, ◌<◌}
use native.Mathlib.Omega.{arith}
use lib.Dec.{eqb}
use Rattle.std.specs.Prelude.{Result, Ok, Err}
use borrow.Author.Tests.{eq-eqb, eqb-true, eqb-false}
use Rattle.runs.specs.Refusals.{no_refusal, non_finite_coefficient}
use Rattle.runs.specs.Default.{by_default}
use Rattle.runs.specs.View.{number, default_of}
use Rattle.runs.specs.declared.refusal.Refusal.{Refusal}
use Rattle.runs.specs.declared.refusal.Refusal.TheVariants.{InvalidOrder, InvalidFrequency, InvalidSampleRate, InvalidRipple, ShortOutput, BadCascade, BadTaps}
use Rattle.runs.specs.declared.refusal.Refusal.TheVariants.{BadCall, InvalidClass, InvalidHeader, TruncatedBlock, ChannelNotPresent, NonFiniteCoefficient}

module _ {R : Type 0} (refusal : R → ℕ) (finite_in : R → Bool) (refused_by : ℕ → R) (r : R) where
  pub refused-stays : (refusal r ≡ no_refusal → ⊥) → by_default refusal finite_in refused_by r ≡ r
  unfolding by_default
  refused-stays h = go (eqb (refusal r) no_refusal) refl
    where
      go : (b : Bool) → eqb (refusal r) no_refusal ≡ b → cond (b && not (finite_in r)) (refused_by non_finite_coefficient) r ≡ r
      go true e = absurd (h (eqb-true (refusal r) no_refusal e))
      go false e = refl

  pub finite-stays : finite_in r ≡ true → by_default refusal finite_in refused_by r ≡ r
  unfolding by_default
  finite-stays h = rw h (go (eqb (refusal r) no_refusal))
    where
      go : (b : Bool) → cond (b && false) (refused_by non_finite_coefficient) r ≡ r
      go true = refl
      go false = refl

  pub not_finite : refusal r ≡ no_refusal → finite_in r ≡ false → by_default refusal finite_in refused_by r ≡ refused_by non_finite_coefficient
  unfolding by_default
  not_finite h e = rw (eq-eqb (refusal r) no_refusal h, e)

  -- what holds of the raw result and of one refused by 25 holds of the default one
  pub of_either : (P : R → Type 0) → P r → P (refused_by non_finite_coefficient) → P (by_default refusal finite_in refused_by r)
  unfolding by_default
  of_either P p q = go (eqb (refusal r) no_refusal && not (finite_in r))
    where
      go : (b : Bool) → P (cond b (refused_by non_finite_coefficient) r)
      go true = q
      go false = p

  module _ (told : (n : ℕ) → refusal (refused_by n) ≡ n) where
    -- what is accepted by default is what the raw form returned, and it is all finite
    pub accepted-raw : refusal (by_default refusal finite_in refused_by r) ≡ no_refusal → (by_default refusal finite_in refused_by r ≡ r) × (finite_in r ≡ true)
    unfolding by_default
    accepted-raw h = go (eqb (refusal r) no_refusal) (finite_in r) refl h
      where
        go : (b f : Bool) → eqb (refusal r) no_refusal ≡ b → refusal (cond (b && not f) (refused_by non_finite_coefficient) r) ≡ no_refusal
            → (cond (b && not f) (refused_by non_finite_coefficient) r ≡ r) × (f ≡ true)
        go true true e h = (refl, refl)
        go true false e h = absurd (omega (arith, told non_finite_coefficient, h))
        go false f e h = absurd (eqb-false (refusal r) no_refusal e h)

-- no refusal has the number 0
pub number_above_zero : (r : Refusal) → 0 < number r
number_above_zero InvalidOrder = omega arith
number_above_zero InvalidFrequency = omega arith
number_above_zero InvalidSampleRate = omega arith
number_above_zero InvalidRipple = omega arith
number_above_zero ShortOutput = omega arith
number_above_zero BadCascade = omega arith
number_above_zero BadTaps = omega arith
number_above_zero BadCall = omega arith
number_above_zero InvalidClass = omega arith
number_above_zero InvalidHeader = omega arith
number_above_zero TruncatedBlock = omega arith
number_above_zero ChannelNotPresent = omega arith
number_above_zero NonFiniteCoefficient = omega arith

-- what the code's default form makes of a result, read by a view, is what the definition makes of the result so read
module _ {R D : Type 0} (view : Result R Refusal → D) (finite : R → Bool) (refusal : D → ℕ) (finite_in : D → Bool) (refused_by : ℕ → D)
    (made : (r : R) → refusal (view (Ok r)) ≡ no_refusal) (same : (r : R) → finite_in (view (Ok r)) ≡ finite r)
    (refused : (n : Refusal) → view (Err n) ≡ refused_by (number n)) (told : (n : ℕ) → refusal (refused_by n) ≡ n) where
  pub default-viewed : (r : Result R Refusal) → view (default_of finite r) ≡ by_default refusal finite_in refused_by (view r)
  default-viewed (Ok r) = go (finite r) refl
    where
      go : (b : Bool) → finite r ≡ b → view (default_of finite (Ok r)) ≡ by_default refusal finite_in refused_by (view (Ok r))
      go true e = rw e (sym (finite-stays refusal finite_in refused_by (view (Ok r)) (same r ∙ e)))
      go false e = rw e (refused NonFiniteCoefficient ∙ sym (not_finite refusal finite_in refused_by (view (Ok r)) (made r) (same r ∙ e)))
  default-viewed (Err n) =
      sym (refused-stays refusal finite_in refused_by (view (Err n)) (λ h. omega (arith, number_above_zero n, told (number n), ap refusal (refused n), h)))
