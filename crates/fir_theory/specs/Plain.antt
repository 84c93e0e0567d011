-- 01 "Forgetting rule": the plain filter of a tap record. Between calls it keeps samples and nothing else.
use Rattle.std.specs.Prelude.{List, ℕ, leb, length, take, Float}
use Rattle.std.specs.Float.{Format}
use Rattle.limits.specs.Zero.{plus_zero}
use Rattle.runs.specs.Runs.{not_all_finite}
use Rattle.runs.specs.Forgetting.{Plain, Call, Outcome, Forgets}
use Rattle.fir_theory.specs.Fir.{TapsRecord, taps_of, sum, fir}

-- the samples that it uses: the newest, at most as many as the taps
abbrev pub used : List Float → List Float → List Float
used taps kept = take (length taps) kept

-- It is fed the starting record's taps. +0, then tap i × sample i is added, newest first, until taps or samples end; Clouded exactly when a sample so used
-- is not finite. The samples kept are enough once they are as many as the taps.
abbrev pub plain_fir : Format → Plain
plain_fir f = record {
  Fed = List Float;
  value = λ taps kept. sum f plus_zero taps kept;
  mark = λ taps kept. not_all_finite (used taps kept);
  enough = λ taps k. leb (length taps) k;
}

-- demand 3 of the tap record, for a list of calls that starts at a record of this capacity and shows these outcomes
abbrev pub FirForgets : ℕ → Format → TapsRecord → List Call → List Outcome → Type 0
FirForgets capacity f r calls outcomes = Forgets (fir capacity f) (plain_fir f) taps_of r calls outcomes
