-- The code's types at f64, read as the records of cascade_theory. They are no part of what is promised.
use Rattle.std.specs.Prelude.{List, slice_index_or, Float, Option, Some, None, true, false}
use Rattle.std.specs.Float.{nan}
use Rattle.sections.specs.View.{section_view}
use Rattle.cascade_theory.specs.Skew.{FourRecord, LineRecord, DrainedRecord, RanRecord}
use Rattle.sections.specs.declared.section.Section.{Section}
use Rattle.pipeline.specs.declared.Line.{Line}

-- what is read past the end of an array, which one of four never is
abbrev pub no_section : Section
no_section = record { b0 = nan; b1 = nan; b2 = nan; a1 = nan; a2 = nan; w1 = nan; w2 = nan }

abbrev pub four_view : List Section → FourRecord
four_view ss = record {
  s0 = section_view (slice_index_or ss 0 no_section);
  s1 = section_view (slice_index_or ss 1 no_section);
  s2 = section_view (slice_index_or ss 2 no_section);
  s3 = section_view (slice_index_or ss 3 no_section);
}

abbrev pub line_view : Line → LineRecord
line_view l = record {
  four = four_view l.sections;
  y0 = slice_index_or l.waiting 0 nan;
  y1 = slice_index_or l.waiting 1 nan;
  y2 = slice_index_or l.waiting 2 nan;
}

-- the last three numbers, and the sections after them
abbrev pub drained_view : List Float × List Section → DrainedRecord
drained_view (ys, ss) = record {
  four = four_view ss;
  y0 = slice_index_or ys 0 nan;
  y1 = slice_index_or ys 1 nan;
  y2 = slice_index_or ys 2 nan;
}

-- of a run of these sections, with the output after it
abbrev pub ran_view : List Section → Option (List Section) → List Float → RanRecord
ran_view ss (Some after) output = record { four = four_view after; done = true; output = output }
ran_view ss None output = record { four = four_view ss; done = false; output = output }
