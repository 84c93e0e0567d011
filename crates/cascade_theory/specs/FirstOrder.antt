-- 01 "Section": the first-order part.
use Rattle.std.specs.Prelude.{Float}
use Rattle.std.specs.Float.{Format}
use Rattle.std.specs.Float.Ieee.{add, sub, mul}
use Rattle.limits.specs.Zero.{plus_zero}
use Rattle.cascade_theory.specs.Section.{one}

pub record FirstOrderRecord : Type 0 where
  pub b0 : Float
  pub b1 : Float
  pub a1 : Float
  pub w : Float

abbrev pub carrying_first : FirstOrderRecord → Float → FirstOrderRecord
carrying_first p w = record { b0 = p.b0; b1 = p.b1; a1 = p.a1; w = w }

abbrev pub new_first : Float → Float → Float → FirstOrderRecord
new_first b0 b1 a1 = record { b0 = b0; b1 = b1; a1 = a1; w = plus_zero }

abbrev pub identity_first : FirstOrderRecord
identity_first = new_first one plus_zero plus_zero

abbrev pub blank_first : FirstOrderRecord
blank_first = new_first plus_zero plus_zero plus_zero

abbrev pub cleared_first : FirstOrderRecord → FirstOrderRecord
cleared_first p = carrying_first p plus_zero

module _ (f : Format) where
  -- y = b0·x + w
  abbrev pub first_out : FirstOrderRecord → Float → Float
  first_out p x = add f (mul f p.b0 x) p.w

  -- then w becomes b1·x − a1·y
  abbrev pub first_next : FirstOrderRecord → Float → FirstOrderRecord
  first_next p x = carrying_first p (sub f (mul f p.b1 x) (mul f p.a1 (first_out p x)))
