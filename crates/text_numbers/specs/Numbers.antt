-- Floats as PROTOCOL.md writes them.
use Rattle.std.specs.Prelude.{ℕ, true, false, ◌&&◌, cond, List, [], ◌∷◌, eqb, leb, length, take, drop, codes, Option, None, Some, Float}
use Rattle.std.specs.Char.{is_ascii_digit, is_ascii_hexdigit}
use Rattle.std.specs.List.{list_all, prefix_len}
use Rattle.std.specs.Option.{option_map}
use Rattle.std.specs.Str.{bytes_eq}
use Rattle.std.specs.Float.{nan, inf, binary64}
use Rattle.std.specs.Float.Ieee.{neg, of_bits}
use Rattle.text_decimals.specs.Decimals.{value_after, decimal}

-- digits, and optionally a point and more digits
unfoldable pub after_whole : List ℕ → List ℕ → Option Float
after_whole whole [] = decimal whole []
after_whole whole (b ∷ fraction) = cond (eqb b 46 && (list_all is_ascii_digit fraction && leb 1 (length fraction))) (decimal whole fraction) None

unfoldable pub unsigned : List ℕ → Option Float
unsigned token = let n = prefix_len is_ascii_digit token in after_whole (take n token) (drop n token)

-- an optional `-`
unfoldable pub signed : List ℕ → Option Float
signed [] = None
signed (b ∷ token) = cond (eqb b 45) (option_map neg (unsigned token)) (unsigned (b ∷ token))

-- `NaN`, `inf`, `-inf`
unfoldable pub named : List ℕ → Option Float
named token =
    cond (bytes_eq token (codes "NaN")) (Some nan)
    (cond (bytes_eq token (codes "inf")) (Some (inf false))
    (cond (bytes_eq token (codes "-inf")) (Some (inf true)) (signed token)))

-- exactly 16 hexadecimal digits
unfoldable pub bits_of : List ℕ → Option ℕ
bits_of token = cond (eqb (length token) 16 && list_all is_ascii_hexdigit token) (Some (value_after 16 0 token)) None

-- exactly 16 hexadecimal digits are the bits, whatever else the token could be
unfoldable pub float_of : List ℕ → Option Float
float_of token = cond (eqb (length token) 16 && list_all is_ascii_hexdigit token) (Some (of_bits binary64 (value_after 16 0 token))) (named token)
