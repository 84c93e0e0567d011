-- Short names for arithmetic at binary64, rounded once in each step, and for the values of bit patterns and whole numbers.
use Rattle.std.specs.Prelude.{ℕ, ℤ, pos, Float}
use Rattle.std.specs.Float.Ieee as Ieee
use Rattle.std.specs.Float.{binary64}

infixl 6 ◌⊕◌ ◌⊖◌
infixl 7 ◌⊗◌ ◌⊘◌
abbrev pub ◌⊕◌ : Float → Float → Float
a ⊕ b = Ieee.add binary64 a b

abbrev pub ◌⊖◌ : Float → Float → Float
a ⊖ b = Ieee.sub binary64 a b

abbrev pub ◌⊗◌ : Float → Float → Float
a ⊗ b = Ieee.mul binary64 a b

abbrev pub ◌⊘◌ : Float → Float → Float
a ⊘ b = Ieee.div binary64 a b

-- the value of a bit pattern
abbrev pub bits : ℕ → Float
bits n = Ieee.of_bits binary64 n

-- a whole number as a float
abbrev pub int : ℤ → Float
int z = Ieee.of_int binary64 z

abbrev pub nat : ℕ → Float
nat n = int (pos n)
