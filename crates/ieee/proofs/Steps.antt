-- The numbers of `nearest_root`'s loop. Nothing here is about floats.
use mathlib.Core.Path.{◌≡◌, ap, ◌∙◌, subst}
use Prim.Native.Nat.{ℕ, suc, ◌+◌, ◌-◌, ◌*◌, ◌^◌, ◌≤◌, ◌<◌}
use native.Mathlib.Nat.{pow-succ'}
use native.Mathlib.Omega.{arith}

-- the weight of a digit is twice that of the next
pub halved : (p : ℕ) → 0 < p → 2 ^ p ≡ 2 * 2 ^ (p - 1)
halved p h = let e : p ≡ suc (p - 1) = omega arith in
    ap (λ (z : ℕ). 2 ^ z) e ∙ pow-succ' 2 (p - 1)

-- a digit 1, and a digit 0
pub taken : (M q y w h : ℕ) → w ≡ 2 * h → y * w + q * q ≡ M → q + q + h ≤ y + y → (y + y - (q + q + h)) * h + (q + h) * (q + h) ≡ M
taken M q y w h t s l = let r : y + y ≡ y + y - (q + q + h) + (q + q + h) = omega arith in
    omega (arith, ap (λ (z : ℕ). z * h) r, subst (λ (z : ℕ). y * z + q * q ≡ M) t s)

pub passed : (M q y w h : ℕ) → w ≡ 2 * h → y * w + q * q ≡ M → (y + y) * h + q * q ≡ M
passed M q y w h t s =
    let u : y * (2 * h) + q * q ≡ M = subst (λ (z : ℕ). y * z + q * q ≡ M) t s in
    omega arith
