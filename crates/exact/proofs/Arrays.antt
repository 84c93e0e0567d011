-- The numbers of an array of the code are values of its format: what owning the array tells.
use mathlib.Core.List.{List, [], ◌∷◌}
use lib.Ieee.{Float, Format, fits}
use mir.Val.{Val}
use denote.Array.{each}
use denote.Floats.{FloatOf, passes}
use denote.Shadow.{shadow}
use Rattle.lists.specs.Lists.{Each}
use Rattle.exact.specs.Scaled.{IsValue}

pub array-values : (f : Format) (xs : List Float) (us : List Val) → shadow (each Float (FloatOf f).own_val xs us) → Each (IsValue f) xs
array-values f [] us p = tt
array-values f (x ∷ xs) [] p = absurd p
array-values f (x ∷ xs) (u ∷ us) p = (passes (fits f x) p.0.1, array-values f xs us p.1)
