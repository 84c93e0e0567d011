-- Tokens of a line. A line is the list of its bytes.
use Rattle.std.specs.Prelude.{ℕ, Bool, true, false, not, List, [], ◌∷◌, eqb, take, drop, Option, None, Some}
use Rattle.std.specs.Borrow.{Bor}
use Rattle.std.specs.List.{filter, position_or_len, slice_split}

abbrev pub is_space : ℕ → Bool
is_space b = eqb b 32

abbrev pub is_empty : List ℕ → Bool
is_empty [] = true
is_empty (b ∷ bytes) = false

-- a line without the spaces at its front
unfoldable pub from_token : List ℕ → List ℕ
from_token line = drop (position_or_len (λ b. not (is_space b)) line) line

-- what stands before the first space, where that is something, and the rest from the space on
unfoldable pub up_to_space : List ℕ → Option (List ℕ × List ℕ)
up_to_space [] = None
up_to_space (b ∷ bytes) = let n = position_or_len is_space (b ∷ bytes) in Some (take n (b ∷ bytes), drop n (b ∷ bytes))

-- the first token and what follows it: past the spaces, up to the next one. Where there is none, nothing.
unfoldable pub next_token : List ℕ → Option (List ℕ × List ℕ)
next_token line = up_to_space (from_token line)

-- a token and what follows it, read
abbrev pub parts : Option (Bor (List ℕ) × Bor (List ℕ)) → Option (List ℕ × List ℕ)
parts None = None
parts (Some p) = Some (p.0.now, p.1.now)

-- the tokens of a line: what stands between its spaces, where that is something
unfoldable pub tokens : List ℕ → List (List ℕ)
tokens line = filter (λ token. not (is_empty token)) (slice_split is_space line)
