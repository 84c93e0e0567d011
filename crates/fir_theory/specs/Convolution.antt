-- Sums of taps and samples at places of a list of samples that stand oldest first. They are no part of what is promised.
use Rattle.std.specs.Prelude.{ℕ, zero, suc, ◌+◌, ◌-◌, List, [], ◌∷◌, Bool, ◌&&◌, cond, leb, length, get_or, Float}
use Rattle.std.specs.Float.{nan, Format}
use Rattle.std.specs.Float.Ieee.{add, mul}
use Rattle.limits.specs.Zero.{plus_zero}
use Rattle.lists.specs.Lists.{spliced}

module _ (f : Format) (taps : List Float) where
  -- +0, then tap i × the sample i places before place k is added, from i = 0 on, for n taps
  unfoldable pub sum_at : ℕ → List Float → ℕ → Float
  sum_at zero x k = plus_zero
  sum_at (suc n) x k = add f (sum_at n x k) (mul f (get_or taps n nan) (get_or x (k - n) nan))

  -- these sums at m places from place k on
  unfoldable pub sums_from : ℕ → List Float → ℕ → ℕ → List Float
  sums_from n x k zero = []
  sums_from n x k (suc m) = sum_at n x k ∷ sums_from n x (suc k) m

-- t × the sample at place k + j is added to sum j
unfoldable pub scaled : Format → List Float → Float → List Float → ℕ → List Float
scaled f [] t x k = []
scaled f (y ∷ sums) t x k = add f y (mul f t (get_or x k nan)) ∷ scaled f sums t x (suc k)

-- whether all places are there: n samples before place `at`, the taps, m samples from `at` on, and m places of the output from `to` on
unfoldable pub convolvable : ℕ → List Float → List Float → ℕ → List Float → ℕ → ℕ → Bool
convolvable n taps x at output to m = leb n at && (leb n (length taps) && (leb (at + m) (length x) && leb (to + m) (length output)))

-- the sums in their places, or the output as it was
unfoldable pub convolved : Format → ℕ → List Float → List Float → ℕ → List Float → ℕ → ℕ → List Float
convolved f n taps x at output to m = cond (convolvable n taps x at output to m) (spliced output to (sums_from f taps n x at m)) output
