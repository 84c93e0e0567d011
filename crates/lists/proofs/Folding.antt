-- Loops that go through a list once: what is left to do from place i on does the whole.
use mathlib.Core.Path.{◌≡◌, sym, ◌∙◌}
use mathlib.Core.List.{List, [], ◌∷◌}
use Prim.Native.Nat.{ℕ, ◌+◌, ◌<◌, ◌≤◌}
use native.Mathlib.Numerals.{add-one}
use native.Mathlib.Omega.{arith}
use lib.ListN.{length, get_or, take, drop, drop_of_length-le, length-take}
use lib.Seq.{drop-cons, slice-cons}

module _ {A C : Type 0} (left : List A → C) (xs : List A) {c : C} (i : ℕ) where
  -- over all elements
  pub fold-turn : (left' : List A → C) (d : A) → i < length xs → ((rest : List A) → left (get_or xs i d ∷ rest) ≡ left' rest) → left (drop i xs) ≡ c
      → left' (drop (i + 1) xs) ≡ c
  fold-turn left' d h e p = rw (add-one) (sym (e _) ∙ (rw (drop-cons xs i d h) at p))

  pub fold_done : length xs ≤ i → left (drop i xs) ≡ c → left [] ≡ c
  fold_done h p = rw (drop_of_length-le xs {i = i} h) at p

  -- over the first n
  pub front-turn : (n : ℕ) (left' : List A → C) (d : A) → i < n → n ≤ length xs → ((rest : List A) → left (get_or xs i d ∷ rest) ≡ left' rest)
      → left (drop i (take n xs)) ≡ c → left' (drop (i + 1) (take n xs)) ≡ c
  front-turn n left' d h k e p = rw (add-one) (sym (e _) ∙ (rw (slice-cons i n xs d h k) at p))

  pub front-done : (n : ℕ) → n ≤ i → left (drop i (take n xs)) ≡ c → left [] ≡ c
  front-done n h p = rw (drop_of_length-le (take n xs) {i = i} (simp length-take (omega arith))) at p
