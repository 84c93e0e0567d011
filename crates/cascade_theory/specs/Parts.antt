-- 01 "Cascade": a sample through sections, from section 0 upward.
use Rattle.std.specs.Prelude.{ℕ, zero, suc, List, [], ◌∷◌, Float}
use Rattle.std.specs.Float.{Format}
use Rattle.cascade_theory.specs.Section.{SectionRecord, section_out, section_next}

module _ (f : Format) where
  -- a sample through the first n sections, from section 0 upward: what comes out, and the sections after it; later ones are left
  abbrev pub sections_out : ℕ → List SectionRecord → Float → Float
  sections_out zero ss x = x
  sections_out (suc n) [] x = x
  sections_out (suc n) (s ∷ ss) x = sections_out n ss (section_out f s x)

  abbrev pub sections_next : ℕ → List SectionRecord → Float → List SectionRecord
  sections_next zero ss x = ss
  sections_next (suc n) [] x = []
  sections_next (suc n) (s ∷ ss) x = section_next f s x ∷ sections_next n ss (section_out f s x)
