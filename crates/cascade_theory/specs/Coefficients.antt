-- 02's Q-3: the coefficients of a cascade, and whether they are all finite. Carried values are no coefficients, and unused parts do not count.
use Rattle.std.specs.Prelude.{Bool, cond, List, [], ◌∷◌, ◌++◌, take, Float}
use Rattle.runs.specs.Runs.{all_finite}
use Rattle.cascade_theory.specs.Section.{SectionRecord}
use Rattle.cascade_theory.specs.FirstOrder.{FirstOrderRecord}
use Rattle.cascade_theory.specs.Cascade.{CascadeRecord}

-- of a first-order part, and of a section
abbrev pub coefficients_of_first : FirstOrderRecord → List Float
coefficients_of_first p = p.b0 ∷ p.b1 ∷ p.a1 ∷ []

abbrev pub coefficients_of_section : SectionRecord → List Float
coefficients_of_section s = s.b0 ∷ s.b1 ∷ s.b2 ∷ s.a1 ∷ s.a2 ∷ []

-- of sections, one section behind the other
unfoldable pub coefficients_of_sections : List SectionRecord → List Float
coefficients_of_sections [] = []
coefficients_of_sections (s ∷ ss) = coefficients_of_section s ++ coefficients_of_sections ss

-- of a cascade's used parts: the first-order part's where flagged, then the counted sections'
unfoldable pub used_coefficients : CascadeRecord → List Float
used_coefficients c = cond c.has_first (coefficients_of_first c.first) [] ++ coefficients_of_sections (take c.count c.sections)

-- ALL FINITE, of a cascade
unfoldable pub finite_coefficients : CascadeRecord → Bool
finite_coefficients c = all_finite (used_coefficients c)
