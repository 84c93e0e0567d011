-- What holds of each element of a list: of its first ones, of two lists one behind the other, and of a list of one element many times.
use mathlib.Core.List.{List, [], ◌∷◌, ◌++◌}
use Prim.Native.Nat.{ℕ, zero, suc}
use lib.ListN.{take, replicate}
use Rattle.lists.specs.Lists.{Each}

module _ {A : Type 0} (P : A → Type 0) where
  pub each_take : (n : ℕ) (xs : List A) → Each P xs → Each P (take n xs)
  each_take zero xs h = tt
  each_take (suc n) [] h = tt
  each_take (suc n) (x ∷ xs) h = (h.0, each_take n xs h.1)

  pub each_append : (xs ys : List A) → Each P xs → Each P ys → Each P (xs ++ ys)
  each_append [] ys h g = g
  each_append (x ∷ xs) ys h g = (h.0, each_append xs ys h.1 g)

  pub each-replicate : (n : ℕ) (x : A) → P x → Each P (replicate n x)
  each-replicate zero x h = tt
  each-replicate (suc n) x h = (h, each-replicate n x h)
