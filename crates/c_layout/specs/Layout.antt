-- How a cascade stands in slices that a caller lends: its numbers and three counts.
use Rattle.std.specs.Prelude.{ℕ, ◌+◌, ◌*◌, Bool, ◌&&◌, cond, Option, Some, None, List, [], ◌∷◌, ◌++◌, eqb, leb, length, get_or, Float}
use Rattle.std.specs.Float.{nan}
use Rattle.limits.specs.Limits.{max_sections}
use Rattle.cascade_theory.specs.Section.{SectionRecord}
use Rattle.cascade_theory.specs.FirstOrder.{FirstOrderRecord}
use Rattle.cascade_theory.specs.Cascade.{CascadeRecord}

-- how many numbers a section has, where the first-order part's four start, and how many a cascade has
abbrev pub section_places : ℕ
section_places = 7

abbrev pub sections_places : ℕ
sections_places = section_places * max_sections

abbrev pub cascade_length : ℕ
cascade_length = sections_places + 4

-- how many counts either kind of record has
abbrev pub count_places : ℕ
count_places = 3

-- a section's numbers, from place k on
abbrev pub section_at : List Float → ℕ → SectionRecord
section_at xs k = record {
  b0 = get_or xs k nan;
  b1 = get_or xs (k + 1) nan;
  b2 = get_or xs (k + 2) nan;
  a1 = get_or xs (k + 3) nan;
  a2 = get_or xs (k + 4) nan;
  w1 = get_or xs (k + 5) nan;
  w2 = get_or xs (k + 6) nan;
}

-- the first-order part's four
abbrev pub first_at : List Float → ℕ → FirstOrderRecord
first_at xs k = record { b0 = get_or xs k nan; b1 = get_or xs (k + 1) nan; a1 = get_or xs (k + 2) nan; w = get_or xs (k + 3) nan }

-- four sections, then the first-order part; the counts are the section count, the first-order flag and the cloud flag
unfoldable pub cascade_at : List Float → List ℕ → CascadeRecord
cascade_at numbers counts = record {
  sections = section_at numbers 0 ∷ section_at numbers section_places ∷ section_at numbers (2 * section_places) ∷ section_at numbers (3 * section_places) ∷ [];
  count = get_or counts 0 0;
  first = first_at numbers sections_places;
  has_first = eqb (get_or counts 1 0) 1;
  clouded = eqb (get_or counts 2 0) 1;
}

-- and back
abbrev pub section_numbers : SectionRecord → List Float
section_numbers s = s.b0 ∷ s.b1 ∷ s.b2 ∷ s.a1 ∷ s.a2 ∷ s.w1 ∷ s.w2 ∷ []

unfoldable pub sections_numbers : List SectionRecord → List Float
sections_numbers [] = []
sections_numbers (s ∷ ss) = section_numbers s ++ sections_numbers ss

abbrev pub first_numbers : FirstOrderRecord → List Float
first_numbers p = p.b0 ∷ p.b1 ∷ p.a1 ∷ p.w ∷ []

unfoldable pub cascade_numbers : CascadeRecord → List Float
cascade_numbers c = sections_numbers c.sections ++ first_numbers c.first

abbrev pub flag : Bool → ℕ
flag b = cond b 1 0

unfoldable pub cascade_counts : CascadeRecord → List ℕ
cascade_counts c = c.count ∷ flag c.has_first ∷ flag c.clouded ∷ []

-- whether slices have the places of a cascade, and whether they can be one: a flag is 0 or 1
unfoldable pub cascade_places : List Float → List ℕ → Bool
cascade_places numbers counts = eqb (length numbers) cascade_length && eqb (length counts) count_places

unfoldable pub cascade_fits : List Float → List ℕ → Bool
cascade_fits numbers counts = cascade_places numbers counts && (leb (get_or counts 1 0) 1 && leb (get_or counts 2 0) 1)

-- the cascade that slices hold: none where they cannot be one
unfoldable pub cascade_in : List Float → List ℕ → Option CascadeRecord
cascade_in numbers counts = cond (cascade_fits numbers counts) (Some (cascade_at numbers counts)) None
