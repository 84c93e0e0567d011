-- 000's band pass.
use Rattle.std.specs.Prelude.{ℕ, zero, suc, ◌/◌, ◌%◌, false, cond, List, [], ◌∷◌, ◌++◌, eqb, Float}
use Rattle.limits.specs.Limits.{max_sections}
use Rattle.scalar.specs.Operators.{◌⊖◌, ◌⊗◌}
use Rattle.elementary.specs.Trigonometric.{sin_of, cos_of}
use Rattle.cascade_theory.specs.Section.{SectionRecord}
use Rattle.cascade_theory.specs.FirstOrder.{blank_first}
use Rattle.cascade_theory.specs.Cascade.{CascadeRecord}
use Rattle.design_bandpass.specs.BandPass.{SectionPairRecord, bp_pair, bp_real}
use Rattle.design_checks.specs.Checks.{validate_band}
use Rattle.design_cascade.specs.Design.{CascadeDesignRecord, unless_refused, padded}
use Rattle.design_cascade.specs.Butterworth.{warped, angle_of}

-- ---- order N gives N sections: two for each pole pair, one for the real pole of an odd N
unfoldable pub bp_pair_of : ℕ → Float → Float → ℕ → SectionPairRecord
bp_pair_of n bw w0 m = bp_pair (cos_of (angle_of n m)) (sin_of (angle_of n m)) bw w0

unfoldable pub bp_up_to : ℕ → Float → Float → ℕ → List SectionRecord
bp_up_to n bw w0 zero = []
bp_up_to n bw w0 (suc m) = bp_up_to n bw w0 m ++ (bp_pair_of n bw w0 m).bq1 ∷ (bp_pair_of n bw w0 m).bq2 ∷ []

unfoldable pub bp_sections : ℕ → Float → Float → List SectionRecord
bp_sections n bw w0 = cond (eqb (n % 2) 0) (bp_up_to n bw w0 (n / 2)) (bp_up_to n bw w0 (n / 2) ++ bp_real bw w0 ∷ [])

-- bandwidth ωh − ωl, and ω0² = ωl × ωh
unfoldable pub bp_cascade : ℕ → Float → Float → CascadeRecord
bp_cascade n wl wh = record {
  sections = padded max_sections (bp_sections n (wh ⊖ wl) (wl ⊗ wh));
  count = n;
  first = blank_first;
  has_first = false;
  clouded = false;
}

-- ---- the design
unfoldable pub butterworth_bp : ℕ → Float → Float → Float → CascadeDesignRecord
butterworth_bp n low high rate = unless_refused (validate_band low high rate n) (bp_cascade n (warped low rate) (warped high rate))
