-- 01 "Cascade" and its part of "Run answer": the check, the number answered to a sample, the mark, and the record after it.
use Rattle.std.specs.Prelude.{ℕ, Bool, false, not, ◌&&◌, ◌||◌, cond, List, [], ◌∷◌, map, leb, ltb, Float}
use Rattle.std.specs.Float.{Format}
use Rattle.std.specs.Float.Ieee.Scale.{finite}
use Rattle.limits.specs.Limits.{max_sections}
use Rattle.runs.specs.Refusals.{bad_cascade}
use Rattle.runs.specs.Runs.{Filter}
use Rattle.cascade_theory.specs.Section.{SectionRecord, blank_section, cleared_section}
use Rattle.cascade_theory.specs.FirstOrder.{FirstOrderRecord, blank_first, cleared_first, first_out, first_next}
use Rattle.cascade_theory.specs.Parts.{sections_out, sections_next}

-- four sections, a count, a first-order part with a flag, and a cloud flag
pub record CascadeRecord : Type 0 where
  pub sections : List SectionRecord
  pub count : ℕ
  pub first : FirstOrderRecord
  pub has_first : Bool
  pub clouded : Bool

abbrev pub blank_cascade : CascadeRecord
blank_cascade = record {
  sections = blank_section ∷ blank_section ∷ blank_section ∷ blank_section ∷ [];
  count = 0;
  first = blank_first;
  has_first = false;
  clouded = false;
}

-- 11 is given where there are more than 4 sections, or none and no first-order part
unfoldable pub check_cascade : CascadeRecord → Bool
check_cascade c = leb c.count max_sections && (ltb 0 c.count || c.has_first)

-- reset sets all carried values to +0 and clears the cloud flag
unfoldable pub cleared_cascade : CascadeRecord → CascadeRecord
cleared_cascade c = record {
  sections = map cleared_section c.sections;
  count = c.count;
  first = cleared_first c.first;
  has_first = c.has_first;
  clouded = false;
}

-- the same parts with this cloud flag
abbrev pub flagged : Bool → CascadeRecord → CascadeRecord
flagged b c = record { sections = c.sections; count = c.count; first = c.first; has_first = c.has_first; clouded = b }

-- THE MARK of one sample x, answered by y: whether it clouds the cascade, `before` it and, with its new carried values, `after` it
unfoldable pub clouding : CascadeRecord → Float → Float → CascadeRecord → Bool
clouding before x y after = not (finite x)

module _ (f : Format) where
  -- a sample passes the first-order part first, if it is used
  abbrev pub entered : CascadeRecord → Float → Float
  entered c x = cond c.has_first (first_out f c.first x) x

  -- then sections 0 upward, as many as are counted: the number answered
  unfoldable pub value : CascadeRecord → Float → Float
  value c x = sections_out f c.count c.sections (entered c x)

  -- the record with its carried values after that, its flag as it was
  unfoldable pub moved : CascadeRecord → Float → CascadeRecord
  moved c x =
      record {
        sections = sections_next f c.count c.sections (entered c x);
        count = c.count;
        first = cond c.has_first (first_next f c.first x) c.first;
        has_first = c.has_first;
        clouded = c.clouded;
      }

  -- Clouded exactly when a sample since design or reset, this one included, clouded the cascade
  unfoldable pub mark : CascadeRecord → Float → Bool
  mark c x = c.clouded || clouding c x (value c x) (moved c x)

  -- the record after x
  unfoldable pub next : CascadeRecord → Float → CascadeRecord
  next c x = flagged (mark c x) (moved c x)

  -- the cascade as a filter
  abbrev pub cascade : Filter
  cascade = record { State = CascadeRecord; check = check_cascade; refusal = bad_cascade; value = value; mark = mark; next = next; cleared = cleared_cascade }
