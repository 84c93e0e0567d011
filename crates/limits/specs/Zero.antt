-- +0, which every number of a blank record and every carried value of a new part is.
use Rattle.std.specs.Prelude.{Float}
use Rattle.std.specs.Float.{binary64}
use Rattle.std.specs.Float.Ieee.{of_bits}

-- +0, which is the same at every format
abbrev pub plus_zero : Float
plus_zero = of_bits binary64 0
