-- Four sections in a row: what they answer one sample after the other, and the same with each section one sample behind the section before it. It is no part of
-- what is promised.
use Rattle.std.specs.Prelude.{Bool, true, false, ◌&&◌, cond, List, leb, length, Float}
use Rattle.std.specs.Float.{Format}
use Rattle.runs.specs.Refusals.{no_refusal}
use Rattle.runs.specs.Runs.{Filter, answers, after, written}
use Rattle.cascade_theory.specs.Section.{SectionRecord, cleared_section, section_out, section_next}

-- four sections, which a sample passes from s0 to s3
pub record FourRecord : Type 0 where
  pub s0 : SectionRecord
  pub s1 : SectionRecord
  pub s2 : SectionRecord
  pub s3 : SectionRecord

-- the same at work: each has taken one number fewer than the section before it, whose last answer waits for it
pub record LineRecord : Type 0 where
  pub four : FourRecord
  pub y0 : Float
  pub y1 : Float
  pub y2 : Float

-- the last three answers of a line, oldest first, and its sections after them
pub record DrainedRecord : Type 0 where
  pub four : FourRecord
  pub y0 : Float
  pub y1 : Float
  pub y2 : Float

-- what a run returns together with its output after it
pub record RanRecord : Type 0 where
  pub four : FourRecord
  pub done : Bool
  pub output : List Float

abbrev pub cleared_four : FourRecord → FourRecord
cleared_four c = record { s0 = cleared_section c.s0; s1 = cleared_section c.s1; s2 = cleared_section c.s2; s3 = cleared_section c.s3 }

module _ (f : Format) where
  -- ---- one sample after the other

  -- a sample through all four: the number answered
  unfoldable pub four_out : FourRecord → Float → Float
  four_out c x = section_out f c.s3 (section_out f c.s2 (section_out f c.s1 (section_out f c.s0 x)))

  -- and the sections after it
  unfoldable pub four_next : FourRecord → Float → FourRecord
  four_next c x =
      let u = section_out f c.s0 x in
      let v = section_out f c.s1 u in
      record { s0 = section_next f c.s0 x; s1 = section_next f c.s1 u; s2 = section_next f c.s2 v; s3 = section_next f c.s3 (section_out f c.s2 v) }

  -- four sections as a filter: no record is refused, and no answer is marked
  abbrev pub four : Filter
  four = record { State = FourRecord; check = λ c. true; refusal = no_refusal; value = four_out; mark = λ c x. false; next = four_next; cleared = cleared_four }

  -- ---- each section one sample behind the section before it

  -- three samples in: section 0 takes all of them, section 1 two, section 2 one
  unfoldable pub filled : FourRecord → Float → Float → Float → LineRecord
  filled c x0 x1 x2 =
      let a0 = section_next f c.s0 x0 in
      let a1 = section_next f a0 x1 in
      let u0 = section_out f c.s0 x0 in
      let u1 = section_out f a0 x1 in
      let b0 = section_next f c.s1 u0 in
      let v0 = section_out f c.s1 u0 in
      record {
        four = record { s0 = section_next f a1 x2; s1 = section_next f b0 u1; s2 = section_next f c.s2 v0; s3 = c.s3 };
        y0 = section_out f a1 x2;
        y1 = section_out f b0 u1;
        y2 = section_out f c.s2 v0;
      }

  -- one more sample: section 0 takes it, each other section what waits for it; what section 3 answers comes out
  unfoldable pub line_out : LineRecord → Float
  line_out l = section_out f l.four.s3 l.y2

  unfoldable pub advanced : LineRecord → Float → LineRecord
  advanced l x =
      let c = l.four in
      record {
        four = record {
          s0 = section_next f c.s0 x;
          s1 = section_next f c.s1 l.y0;
          s2 = section_next f c.s2 l.y1;
          s3 = section_next f c.s3 l.y2;
        };
        y0 = section_out f c.s0 x;
        y1 = section_out f c.s1 l.y0;
        y2 = section_out f c.s2 l.y1;
      }

  -- no more samples: section 1 takes one number more, section 2 two, section 3 three
  unfoldable pub drained : LineRecord → DrainedRecord
  drained l =
      let c = l.four in
      let u = section_out f c.s1 l.y0 in
      let b = section_next f c.s2 l.y1 in
      let d0 = section_next f c.s3 l.y2 in
      let v = section_out f c.s2 l.y1 in
      let d1 = section_next f d0 v in
      let w = section_out f b u in
      record {
        four = record { s0 = c.s0; s1 = section_next f c.s1 l.y0; s2 = section_next f b u; s3 = section_next f d1 w };
        y0 = section_out f c.s3 l.y2;
        y1 = section_out f d0 v;
        y2 = section_out f d1 w;
      }

  -- a run of at least three samples whose answers have places: one sample after the other. Any other changes nothing
  unfoldable pub ran : FourRecord → List Float → List Float → RanRecord
  ran c input output =
      cond (leb 3 (length input) && leb (length input) (length output))
      (record { four = after four c input; done = true; output = written (answers four c input) output })
      (record { four = c; done = false; output = output })
