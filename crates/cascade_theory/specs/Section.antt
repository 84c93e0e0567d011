-- 01 "Section": what a second-order section answers to a sample, and what it carries on. Every operation rounds once, in the format f.
use Rattle.std.specs.Prelude.{pos, Float, false}
use Rattle.std.specs.Float.{fin, Format}
use Rattle.std.specs.Float.Ieee.{add, sub, mul}
use Rattle.limits.specs.Zero.{plus_zero}

pub record SectionRecord : Type 0 where
  pub b0 : Float
  pub b1 : Float
  pub b2 : Float
  pub a1 : Float
  pub a2 : Float
  pub w1 : Float
  pub w2 : Float

-- the same coefficients with these carried values
abbrev pub carrying : SectionRecord → Float → Float → SectionRecord
carrying s w1 w2 = record { b0 = s.b0; b1 = s.b1; b2 = s.b2; a1 = s.a1; a2 = s.a2; w1 = w1; w2 = w2 }

-- new sections start with carried values +0
abbrev pub new_section : Float → Float → Float → Float → Float → SectionRecord
new_section b0 b1 b2 a1 a2 = record { b0 = b0; b1 = b1; b2 = b2; a1 = a1; a2 = a2; w1 = plus_zero; w2 = plus_zero }

-- 1, at every format
abbrev pub one : Float
one = fin false 1 (pos 0)

abbrev pub identity_section : SectionRecord
identity_section = new_section one plus_zero plus_zero plus_zero plus_zero

-- an unused section of a design: all +0
abbrev pub blank_section : SectionRecord
blank_section = new_section plus_zero plus_zero plus_zero plus_zero plus_zero

abbrev pub cleared_section : SectionRecord → SectionRecord
cleared_section s = carrying s plus_zero plus_zero

module _ (f : Format) where
  -- y = b0·x + w1
  abbrev pub section_out : SectionRecord → Float → Float
  section_out s x = add f (mul f s.b0 x) s.w1

  -- w1 becomes (b1·x − a1·y) + w2; w2 becomes b2·x − a2·y
  abbrev pub section_next : SectionRecord → Float → SectionRecord
  section_next s x =
      let y = section_out s x in
      carrying s (add f (sub f (mul f s.b1 x) (mul f s.a1 y)) s.w2) (sub f (mul f s.b2 x) (mul f s.a2 y))
