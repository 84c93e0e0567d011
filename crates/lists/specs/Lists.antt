-- A list by its places, lists one behind the other, numbers put into a list, and what is said of each element.
use Rattle.std.specs.Prelude.{ℕ, zero, suc, ◌+◌, List, [], ◌∷◌, ◌++◌, length, take, drop, Float}

-- g 0, g 1, to g (n - 1)
unfoldable pub up_to : {A : Type 0} → (ℕ → A) → ℕ → List A
up_to g zero = []
up_to g (suc n) = up_to g n ++ g n ∷ []

-- f 0, f 1, to f (n - 1), one behind the other
unfoldable pub joined : {A : Type 0} → (ℕ → List A) → ℕ → List A
joined f zero = []
joined f (suc n) = joined f n ++ f n

-- the output with these in its places from `to` on
unfoldable pub spliced : List Float → ℕ → List Float → List Float
spliced output to ys = take to output ++ (ys ++ drop (to + length ys) output)

-- P holds of each element
abbrev pub Each : {A : Type 0} → (A → Type 0) → List A → Type 0
Each P [] = Unit
Each P (x ∷ xs) = P x × Each P xs
