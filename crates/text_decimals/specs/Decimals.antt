-- Digits as PROTOCOL.md has them: counts and decimals.
use Rattle.std.specs.Prelude.{ℕ, ◌+◌, ◌-◌, ◌*◌, ◌^◌, ◌&&◌, cond, List, [], ◌∷◌, ◌++◌, leb, ltb, pos, length, Option, None, Some, Float}
use Rattle.std.specs.Char.{is_ascii_digit}
use Rattle.std.specs.Int.{is_in_range}
use Rattle.std.specs.List.{list_all}
use Rattle.std.specs.Float.Ieee.{div, of_int}
use Rattle.std.specs.Float.{binary64}

-- the value of a digit, and 0 of any other byte
unfoldable pub digit : ℕ → ℕ
digit b = cond (is_ascii_digit b) (b - 48) (cond (is_in_range 65 70 b) (b - 55) (cond (is_in_range 97 102 b) (b - 87) 0))

-- the number that digits write in a base, the highest first, after the number n
unfoldable pub value_after : ℕ → ℕ → List ℕ → ℕ
value_after base n [] = n
value_after base n (b ∷ digits) = value_after base (n * base + digit b) digits

-- a count: one to nine decimal digits
unfoldable pub count_of : List ℕ → Option ℕ
count_of token = cond (list_all is_ascii_digit token && (leb 1 (length token) && leb (length token) 9)) (Some (value_after 10 0 token)) None

-- digits before a point and digits after it: at least one before it, 15 in all without leading zeros, at most 22 after it, so that the power of ten is exact.
-- One correctly rounded division gives the nearest double.
unfoldable pub decimal : List ℕ → List ℕ → Option Float
decimal whole fraction =
    cond (leb 1 (length whole) && (ltb (value_after 10 0 (whole ++ fraction)) (10 ^ 15) && leb (length fraction) 22))
    (Some (div binary64 (of_int binary64 (pos (value_after 10 0 (whole ++ fraction)))) (of_int binary64 (pos (10 ^ length fraction))))) None
