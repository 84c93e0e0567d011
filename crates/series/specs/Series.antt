-- 01: "A series is summed by Horner, highest coefficient first, each step coefficient + s × rest. Coefficients 1/k! are one division by k!, from a table of
-- the factorials up to 17!; 1/3 to 1/21 in ln are one division each."
use Rattle.std.specs.Prelude.{ℕ, zero, suc, ◌+◌, ◌*◌, List, [], ◌∷◌, Float}
use Rattle.std.specs.Float.Ieee.{neg}
use Rattle.scalar.specs.Operators.{◌⊕◌, ◌⊗◌, ◌⊘◌, nat}
use Rattle.scalar.specs.Constants.{one}

-- k!
unfoldable pub fact : ℕ → ℕ
fact zero = 1
fact (suc k) = suc k * fact k

-- 1/k! and 1/k
unfoldable pub inv_fact : ℕ → Float
inv_fact k = one ⊘ nat (fact k)

unfoldable pub inv : ℕ → Float
inv k = one ⊘ nat k

-- c + s * (d0 + s * (d1 + .. + s * dn))
unfoldable pub horner : Float → Float → List Float → Float
horner s c [] = c
horner s c (d ∷ ds) = c ⊕ s ⊗ horner s d ds

-- c j + s * (c (j + 1) + .. + s * c (j + n)): in what the code's `horner` ensures, and no part of what the series promise
unfoldable pub horner_from : (ℕ → Float) → Float → ℕ → ℕ → Float
horner_from c s zero j = c j
horner_from c s (suc n) j = c j ⊕ s ⊗ horner_from c s n (suc j)

-- -1/k!, +1/(k + 2)!, alternating to +1/(k + 14)!
unfoldable pub alternating_of : ℕ → Float → Float
alternating_of k s =
    horner s (neg (inv_fact k))
    (inv_fact (k + 2)
    ∷ neg (inv_fact (k + 4))
    ∷ inv_fact (k + 6)
    ∷ neg (inv_fact (k + 8))
    ∷ inv_fact (k + 10)
    ∷ neg (inv_fact (k + 12))
    ∷ inv_fact (k + 14)
    ∷ [])

-- sin: S = r + (r × s) × P, with s = r × r and P in s from −1/3!, +1/5!, alternating to +1/17!
unfoldable pub sin_rest : Float → Float
sin_rest r = r ⊕ (r ⊗ (r ⊗ r)) ⊗ alternating_of 3 (r ⊗ r)

-- cos: C = 1 + s × Q, with Q from −1/2!, +1/4!, to +1/16!
unfoldable pub cos_rest : Float → Float
cos_rest r = one ⊕ (r ⊗ r) ⊗ alternating_of 2 (r ⊗ r)

-- exp: the series in r of 1/j! for j = 0 to 13
unfoldable pub exp_series : Float → Float
exp_series r =
    horner r (inv_fact 0)
    (inv_fact 1
    ∷ inv_fact 2
    ∷ inv_fact 3
    ∷ inv_fact 4
    ∷ inv_fact 5
    ∷ inv_fact 6
    ∷ inv_fact 7
    ∷ inv_fact 8
    ∷ inv_fact 9
    ∷ inv_fact 10
    ∷ inv_fact 11
    ∷ inv_fact 12
    ∷ inv_fact 13
    ∷ [])

-- ln: P in s from 1/1, 1/3, to 1/21
unfoldable pub ln_series : Float → Float
ln_series s = horner s (inv 1) (inv 3 ∷ inv 5 ∷ inv 7 ∷ inv 9 ∷ inv 11 ∷ inv 13 ∷ inv 15 ∷ inv 17 ∷ inv 19 ∷ inv 21 ∷ [])

-- sinh, by 02's Q-4: P in s from 1/3!, 1/5!, to 1/17!
unfoldable pub sinh_series : Float → Float
sinh_series s = horner s (inv_fact 3) (inv_fact 5 ∷ inv_fact 7 ∷ inv_fact 9 ∷ inv_fact 11 ∷ inv_fact 13 ∷ inv_fact 15 ∷ inv_fact 17 ∷ [])
