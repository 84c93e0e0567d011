-- 004's constants at f64, by their bits: 01 gives those of PI and EPSILON. And ln 2 with its two parts, from 01's exp and ln.
use Rattle.std.specs.Prelude.{Float}
use Rattle.scalar.specs.Operators.{bits}

abbrev pub one : Float
one = bits 0x3FF0000000000000

abbrev pub two : Float
two = bits 0x4000000000000000

abbrev pub half : Float
half = bits 0x3FE0000000000000

abbrev pub pi : Float
pi = bits 0x400921FB54442D18

abbrev pub epsilon : Float
epsilon = bits 0x3CB0000000000000

abbrev pub ln2 : Float
ln2 = bits 0x3FE62E42FEFA39EF

abbrev pub ln2_high : Float
ln2_high = bits 0x3FE62E42FEE00000

abbrev pub ln2_low : Float
ln2_low = bits 0x3DEA39EF35793C76
