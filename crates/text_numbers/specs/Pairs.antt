-- Bytes as PROTOCOL.md writes them: pairs of hexadecimal digits.
use Rattle.std.specs.Prelude.{ℕ, ◌+◌, ◌*◌, ◌/◌, ◌%◌, Bool, ◌&&◌, List, eqb, length, get_or}
use Rattle.lists.specs.Lists.{up_to}
use Rattle.std.specs.Char.{is_ascii_hexdigit}
use Rattle.std.specs.List.{list_all}
use Rattle.text_decimals.specs.Decimals.{digit}

-- an even number of hexadecimal digits
unfoldable pub is_pairs : List ℕ → Bool
is_pairs token = eqb (length token % 2) 0 && list_all is_ascii_hexdigit token

-- the byte that pair i writes, the higher digit first
unfoldable pub pair_of : List ℕ → ℕ → ℕ
pair_of token i = digit (get_or token (2 * i) 0) * 16 + digit (get_or token (2 * i + 1) 0)

abbrev pub pairs_of : List ℕ → List ℕ
pairs_of token = up_to (pair_of token) (length token / 2)
