-- IEEE 754's squareRoot (5.4.1), rounded to nearest with ties to even: as a relation, `Sqrt`, and as a function, `sqrt_of`.
use Rattle.std.specs.Prelude.{◌≡◌, true, false, cond, ℕ, zero, suc, ◌+◌, ◌*◌, ◌/◌, ◌^◌, ltb, eqb, Float}
use Rattle.std.specs.Float.{nan, inf, fin, Format}
use Rattle.std.specs.Float.Ieee.{low, up, down, size, round}
use Rattle.ieee.specs.Nearest.{Nearest, root}

-- r is the square root of x in the format f. A NaN, +infinity and the two zeros are their own; below zero it is a NaN; and else it is the value of f
-- that is nearest to the real number √x, where x is m * 2 ^ e, the fraction m * up e / down e.
abbrev pub Sqrt : Format → Float → Float → Type 0
Sqrt f nan r = r ≡ nan
Sqrt f (inf true) r = r ≡ nan
Sqrt f (inf false) r = r ≡ inf false
Sqrt f (fin s zero e) r = r ≡ fin s zero e
Sqrt f (fin true (suc m) e) r = r ≡ nan
Sqrt f (fin false (suc m) e) r = Nearest f (root (suc m * up e) (down e)) false r

-- ---- the same as a function, which antt computes. `sqrt_of-correct` of proofs/Model.antt shows that it has the property, and `sqrt-unique` of
-- proofs/Unique.antt that nothing else has.

-- the whole part of √n, for an n below 4 ^ k, a binary digit a step
unfoldable pub isqrt : ℕ → ℕ → ℕ
isqrt zero n = 0
isqrt (suc k) n = let r = 2 * isqrt k (n / 4) in cond (ltb n ((r + 1) * (r + 1))) r (r + 1)

-- 2 * S, and one more where S is not the whole of √N: so its half is on the same side of every whole number as √N
unfoldable pub with_sticky : ℕ → ℕ → ℕ
with_sticky S N = cond (eqb (S * S) N) (2 * S) (2 * S + 1)

-- √(p / d) is √N / (d * g) for N = p * d * g * g. With g = 2 ^ (low + 1) every middle between two values of f is a whole number of 1 / (d * g).
unfoldable pub root_of : Format → ℕ → ℕ → Float
unfolding isqrt with_sticky round
root_of f p d =
    let g = 2 ^ suc (low f) in
    let N = p * d * (g * g) in
    round f false (with_sticky (isqrt (size N) N) N) (2 * (d * g))

unfoldable pub sqrt_of : Format → Float → Float
unfolding root_of
sqrt_of f nan = nan
sqrt_of f (inf true) = nan
sqrt_of f (inf false) = inf false
sqrt_of f (fin s zero e) = fin s zero e
sqrt_of f (fin true (suc m) e) = nan
sqrt_of f (fin false (suc m) e) = root_of f (suc m * up e) (down e)
