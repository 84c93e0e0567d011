-- 02's Q-3: what a default form makes of what its raw form returned, for any kind of result.
use Rattle.std.specs.Prelude.{ℕ, Bool, not, ◌&&◌, cond, eqb}
use Rattle.runs.specs.Refusals.{no_refusal, non_finite_coefficient}

-- its refusal number, whether its coefficients are all finite, and what a call that is refused by a number returns
module _ {R : Type 0} (refusal : R → ℕ) (finite_in : R → Bool) (refused_by : ℕ → R) where
  -- BY DEFAULT: what was accepted and is not all finite is refused by 25; anything else is as the raw form returned it
  unfoldable pub by_default : R → R
  by_default r = cond (eqb (refusal r) no_refusal && not (finite_in r)) (refused_by non_finite_coefficient) r
