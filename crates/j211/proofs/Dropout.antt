-- What a dropout, a NaN among the samples, does to a pass: every output from it on is a NaN.
use Rattle.std.proofs.Common.{◌≡◌, ℕ, suc, ◌+◌, List, [], ◌∷◌, ◌++◌, reverse, length, replicate, refl, ap, ◌∙◌, arith, length-append}
use mathlib.Core.List.{reverse-append}
use lib.ListN.{length-reverse, length-replicate}
use lib.Ieee.{Float, nan}
use Rattle.lists.proofs.Places.{reverse-replicate}
use Rattle.scalar.proofs.NaN.{add-nan, nan-add, mul-nan}
use Rattle.j211.specs.J211.{zero_history, output_of, next_of, pass, forward, backward}
use Rattle.j211.specs.declared.Coefficients.{Coefficients}
use Rattle.j211.specs.declared.History.{History}

module _ (k : Coefficients) where
  -- the output to a NaN, and every output after one
  output-at : (h : History) → output_of k h nan ≡ nan
  unfolding output_of
  output-at h = simp (mul-nan, nan-add)

  output-after : (h : History) (x : Float) → h.y1 ≡ nan → output_of k h x ≡ nan
  unfolding output_of
  output-after h x e = rw e (simp (mul-nan, add-nan, nan-add))

  pass-after : (h : History) (xs : List Float) → h.y1 ≡ nan → pass k h xs ≡ replicate (length xs) nan
  unfolding pass
  pass-after h [] e = refl
  pass-after h (x ∷ xs) e = rw (output-after h x e) (ap (λ (l : List Float). nan ∷ l) (pass-after (next_of h x nan) xs refl))

  pass-at : (h : History) (xs : List Float) → pass k h (nan ∷ xs) ≡ replicate (suc (length xs)) nan
  unfolding pass
  pass-at h xs = rw (output-at h) (ap (λ (l : List Float). nan ∷ l) (pass-after (next_of h nan nan) xs refl))

  pass-dropout : (h : History) (xs ys : List Float) → pass k h (xs ++ nan ∷ ys) ≡ pass k h xs ++ replicate (suc (length ys)) nan
  unfolding pass
  pass-dropout h [] ys = pass-at h ys
  pass-dropout h (x ∷ xs) ys = ap (λ (l : List Float). output_of k h x ∷ l) (pass-dropout (next_of h x (output_of k h x)) xs ys)

  pass-length : (h : History) (xs : List Float) → length (pass k h xs) ≡ length xs
  unfolding pass
  pass-length h [] = refl
  pass-length h (x ∷ xs) = ap suc (pass-length (next_of h x (output_of k h x)) xs)

  pub forward-dropout : (xs ys : List Float) → forward k (xs ++ nan ∷ ys) ≡ forward k xs ++ replicate (suc (length ys)) nan
  forward-dropout = pass-dropout zero_history

  pub forward-length : (xs : List Float) → length (forward k xs) ≡ length xs
  forward-length = pass-length zero_history

  -- a backward pass over samples whose last are NaNs meets a NaN first
  pub backward-dropout : (xs : List Float) (n : ℕ) → backward k (xs ++ replicate (suc n) nan) ≡ replicate (length xs + suc n) nan
  backward-dropout xs n =
      let r = replicate n nan ++ reverse xs in
      let turned : reverse (xs ++ replicate (suc n) nan) ≡ nan ∷ r =
      reverse-append xs (replicate (suc n) nan) ∙ ap (λ (l : List Float). l ++ reverse xs) (reverse-replicate (suc n) nan) in
      let long : suc (length r) ≡ length xs + suc n = simp (length-append, length-replicate, length-reverse) (omega arith) in
      ap (λ (l : List Float). reverse (pass k zero_history l)) turned ∙ ap reverse (pass-at zero_history r) ∙ reverse-replicate (suc (length r)) nan
      ∙ ap (λ (m : ℕ). replicate m nan) long
