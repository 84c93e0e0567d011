-- When the sections of a block can run skewed (crate pipeline). It is no part of what is promised.
use Rattle.std.specs.Prelude.{◌≤◌, ◌≡◌, false, List, [], ◌∷◌, length, Float}
use Rattle.limits.specs.Limits.{max_sections}
use Rattle.runs.specs.Runs.{not_all_finite}
use Rattle.cascade_theory.specs.Section.{SectionRecord}
use Rattle.cascade_theory.specs.Skew.{FourRecord}
use Rattle.cascade_theory.specs.Cascade.{CascadeRecord}

-- four sections as a cascade has them
abbrev pub listed : FourRecord → List SectionRecord
listed c = c.s0 ∷ c.s1 ∷ c.s2 ∷ c.s3 ∷ []

-- four sections and nothing else in use, three samples or more, and no answer Clouded: none so far was, and every sample is finite
pub record Skewable (c : CascadeRecord) (input : List Float) : Type 0 where
  pub four : c.count ≡ max_sections
  pub alone : c.has_first ≡ false
  pub clear : c.clouded ≡ false
  pub enough : 3 ≤ length input
  pub finite : not_all_finite input ≡ false
