-- 02's Q-1: what a dropout, a NaN among the samples, does to a pulse that a channel class filters.
use Rattle.std.specs.Prelude.{◌≡◌, List, ◌∷◌, ◌++◌, ℕ, suc, length, replicate, Float}
use Rattle.std.specs.Float.{nan}
use Rattle.runs.specs.Refusals.{no_refusal}
use Rattle.j211.specs.J211.{warped_of, coefficients_of, forward, refusal, filtered}

-- the samples before the dropout are xs, and those behind it ys
pub record Dropout : Type 0 where
  -- after the first pass every place from the dropout on is a NaN, and the places before it are as without it
  pub first_pass : (class : ℕ) (rate : Float) (xs ys : List Float) → (let k = coefficients_of (warped_of class rate) in
      forward k (xs ++ nan ∷ ys) ≡ forward k xs ++ replicate (suc (length ys)) nan)
  -- after a call that is accepted every place is a NaN
  pub both_passes : (class : ℕ) (rate : Float) (xs ys : List Float) → refusal class rate ≡ no_refusal
      → filtered class rate (xs ++ nan ∷ ys) ≡ replicate (length (xs ++ nan ∷ ys)) nan
