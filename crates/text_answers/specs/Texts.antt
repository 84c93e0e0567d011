-- What an answer line is made of.
use Rattle.std.specs.Prelude.{ℕ, zero, suc, ◌+◌, ◌-◌, ◌/◌, ◌%◌, ◌^◌, ◌≤◌, ◌<◌, ◌≡◌, Bool, cond, List, [], ◌∷◌, ◌++◌, leb, ltb, length, take, drop, Float}
use Rattle.std.specs.Float.Ieee.{is_nan, to_bits}
use Rattle.std.specs.Float.{binary64}

-- whether n bytes fit into an output from a place on
abbrev pub fitting : List ℕ → ℕ → ℕ → Bool
fitting output at n = leb (at + n) (length output)

-- text in an output from a place on, where it fits; the output is left where it does not
unfoldable pub put : List ℕ → ℕ → List ℕ → List ℕ
put output at text = cond (fitting output at (length text)) (take at output ++ (text ++ drop (at + length text) output)) output

-- the place after n bytes that were put; where they do not fit, a place past the output's end, from which on nothing fits
unfoldable pub place_after : List ℕ → ℕ → ℕ → ℕ
place_after output at n = cond (fitting output at n) (at + n) (suc (length output))

-- the byte of a digit below 16: `0` to `9`, `A` to `F`
unfoldable pub glyph : ℕ → ℕ
glyph d = cond (ltb d 10) (48 + d) (55 + d)

-- the last k digits of n in a base, the highest first
unfoldable pub digits_of : ℕ → ℕ → ℕ → List ℕ
digits_of base zero n = []
digits_of base (suc k) n = digits_of base k (n / base) ++ glyph (n % base) ∷ []

-- a float: the 16 uppercase hexadecimal digits of its bits, and any NaN is `NaN`
unfoldable pub float_text : Float → List ℕ
float_text x = cond (is_nan x) (78 ∷ 97 ∷ 78 ∷ []) (digits_of 16 16 (to_bits binary64 x))

-- k is the fewest decimal digits, at least one, that hold n
pub record Fewest (n k : ℕ) : Type 0 where
  pub some : 1 ≤ k
  pub hold : n < 10 ^ k
  pub needed : 1 < k → 10 ^ (k - 1) ≤ n

-- a count as text was put: its decimal digits with no zero in front
pub record CountPut (output : List ℕ) (at n : ℕ) (output' : List ℕ) (at' : ℕ) : Type 0 where
  pub digits : ℕ
  pub fewest : Fewest n digits
  pub place : at' ≡ place_after output at digits
  pub text : output' ≡ put output at (digits_of 10 digits n)
