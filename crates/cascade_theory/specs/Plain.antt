-- 01 "Forgetting rule": the plain filter of a cascade. Between calls it keeps samples and nothing else.
use Rattle.std.specs.Prelude.{ℕ, zero, suc, Bool, false, cond, List, [], ◌∷◌, map, reverse, Float}
use Rattle.std.specs.Float.{Format}
use Rattle.limits.specs.Zero.{plus_zero}
use Rattle.runs.specs.Runs.{not_all_finite}
use Rattle.runs.specs.Forgetting.{Plain, Call, Outcome, Forgets}
use Rattle.cascade_theory.specs.Section.{SectionRecord, new_section, section_out, section_next}
use Rattle.cascade_theory.specs.FirstOrder.{FirstOrderRecord, new_first, first_out, first_next}
use Rattle.cascade_theory.specs.Cascade.{CascadeRecord, cascade}

-- ---- what it is fed of the starting record: the coefficients, the count and the first-order flag

pub record SectionCoefficients : Type 0 where
  pub b0 : Float
  pub b1 : Float
  pub b2 : Float
  pub a1 : Float
  pub a2 : Float

pub record FirstCoefficients : Type 0 where
  pub b0 : Float
  pub b1 : Float
  pub a1 : Float

pub record Coefficients : Type 0 where
  pub sections : List SectionCoefficients
  pub count : ℕ
  pub first : FirstCoefficients
  pub has_first : Bool

abbrev pub section_coefficients : SectionRecord → SectionCoefficients
section_coefficients s = record { b0 = s.b0; b1 = s.b1; b2 = s.b2; a1 = s.a1; a2 = s.a2 }

abbrev pub first_coefficients : FirstOrderRecord → FirstCoefficients
first_coefficients p = record { b0 = p.b0; b1 = p.b1; a1 = p.a1 }

abbrev pub coefficients_of : CascadeRecord → Coefficients
coefficients_of c = record { sections = map section_coefficients c.sections; count = c.count; first = first_coefficients c.first; has_first = c.has_first }

-- ---- the filter

-- parts with these coefficients, every carried value starting at +0
abbrev pub section_of : SectionCoefficients → SectionRecord
section_of c = new_section c.b0 c.b1 c.b2 c.a1 c.a2

abbrev pub first_of : FirstCoefficients → FirstOrderRecord
first_of c = new_first c.b0 c.b1 c.a1

-- the last number of a list, and d of none
unfoldable pub last : Float → List Float → Float
last d [] = d
last d (x ∷ xs) = last x xs

module _ (f : Format) where
  -- samples, oldest first, through one part
  unfoldable pub pass_first : FirstOrderRecord → List Float → List Float
  pass_first p [] = []
  pass_first p (x ∷ xs) = first_out f p x ∷ pass_first (first_next f p x) xs

  unfoldable pub pass_section : SectionRecord → List Float → List Float
  pass_section s [] = []
  pass_section s (x ∷ xs) = section_out f s x ∷ pass_section (section_next f s x) xs

  -- through section 0, its answers through section 1, and so on through n of them
  unfoldable pub pass_sections : ℕ → List SectionCoefficients → List Float → List Float
  pass_sections zero cs xs = xs
  pass_sections (suc n) [] xs = xs
  pass_sections (suc n) (c ∷ cs) xs = pass_sections n cs (pass_section (section_of c) xs)

  -- first through the first-order part, if flagged
  unfoldable pub pass_all : Coefficients → List Float → List Float
  pass_all c xs = pass_sections c.count c.sections (cond c.has_first (pass_first (first_of c.first) xs) xs)

  -- all kept samples pass, oldest first, and the last number out is the answer
  unfoldable pub plain_value : Coefficients → List Float → Float
  plain_value c kept = last plus_zero (pass_all c (reverse kept))

  -- Clouded exactly when a kept sample is not finite. However many samples are kept, an answer depends on what the starting record carried.
  abbrev pub plain_cascade : Plain
  plain_cascade = record { Fed = Coefficients; value = plain_value; mark = λ c kept. not_all_finite kept; enough = λ c k. false }

  -- demand 3 of the cascade, for a list of calls that starts at a record and shows these outcomes
  abbrev pub CascadeForgets : CascadeRecord → List Call → List Outcome → Type 0
  CascadeForgets c calls outcomes = Forgets (cascade f) plain_cascade coefficients_of c calls outcomes
