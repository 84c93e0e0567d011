-- What the parts of a long block hand to one another. It is no part of what is promised.
use Rattle.std.specs.Prelude.{ℕ, suc, ◌+◌, min, cond, List, [], ◌∷◌, ltb, take, Float}
use Rattle.std.specs.Float.{Format}
use Rattle.std.specs.Float.Ieee.Scale.{finite}
use Rattle.limits.specs.Zero.{plus_zero}
use Rattle.runs.specs.Refusals.{no_refusal}
use Rattle.runs.specs.Runs.{Block}
use Rattle.fir_theory.specs.Fir.{TapsRecord, sum}

-- how many samples at the front are finite
unfoldable pub finite_run : List Float → ℕ
finite_run [] = 0
finite_run (x ∷ xs) = cond (finite x) (suc (finite_run xs)) 0

-- how many finite samples, up to n, end with x, after so many before it
abbrev pub age_after : ℕ → ℕ → Float → ℕ
age_after n age x = cond (finite x) (min (age + 1) n) 0

-- how many answers are Clouded: those with fewer than n finite samples up to theirs
unfoldable pub clouds_from : ℕ → ℕ → List Float → ℕ
clouds_from n age [] = 0
clouds_from n age (x ∷ xs) = cond (ltb (age_after n age x) n) 1 0 + clouds_from n (age_after n age x) xs

-- the numbers answered to samples by n taps, after a history that stands newest first
module _ (f : Format) (ts : List Float) (n : ℕ) where
  unfoldable pub values : List Float → List Float → List Float
  values L [] = []
  values L (x ∷ xs) = sum f plus_zero ts (take n (x ∷ L)) ∷ values (x ∷ L) xs

-- an accepted block by its parts
abbrev pub ran_block : ℕ → TapsRecord → List Float → Block TapsRecord
ran_block clouded r output = record { refusal = no_refusal; clouded = clouded; state = r; output = output }
