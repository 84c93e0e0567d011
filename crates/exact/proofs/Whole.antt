-- Integers as differences of natural numbers, which `omega` reads; their signs and magnitudes.
use mathlib.Core.Path.{◌≡◌, refl, ap}
use mathlib.Core.Bool.{Bool, true, false, not, cond}
use Prim.Native.Nat.{ℕ, zero, suc, ◌+◌, ◌-◌, ◌*◌, ◌≤◌, ◌<◌}
use native.Mathlib.Omega.{arith}
use lib.IntN.{ℤ, pos, negsuc, neg_ℤ, nat_abs, sub_ℕ, one, ◌+ℤ◌, ◌*ℤ◌, *ℤ-one}
use lib.Dec.{T, ltb, ltb→lt, nltb→le}
use Rattle.ieee.specs.Arithmetic.{gain, loss}
use Rattle.exact.specs.Scaled.{with_sign}

-- z is plus z - minus z, and one of the two is 0
abbrev pub plus : ℤ → ℕ
plus (pos n) = n
plus (negsuc n) = 0

abbrev pub minus : ℤ → ℕ
minus (pos n) = 0
minus (negsuc n) = suc n

-- z is p - n
abbrev pub Is : ℤ → ℕ → ℕ → Type 0
Is z p n = plus z + n ≡ p + minus z

-- an integer is determined by its two parts
pub same : (a b : ℤ) → plus a + minus b ≡ plus b + minus a → a ≡ b
same (pos a) (pos b) h = ap pos (omega arith)
same (pos a) (negsuc b) h = absurd (omega arith)
same (negsuc a) (pos b) h = absurd (omega arith)
same (negsuc a) (negsuc b) h = ap negsuc (omega arith)

-- ---- sums, negatives and products
sub_is : (a b : ℕ) → Is (sub_ℕ a b) a b
sub_is a b = go (ltb a b) (ltb→lt a b) (nltb→le a b)
  where
    go : (t : Bool) → (T t → a < b) → (T (not t) → b ≤ a) → Is (cond t (negsuc (b - suc a)) (pos (a - b))) a b
    go true h g = let l = h tt in omega arith
    go false h g = let l = g tt in omega arith

pub add_is : (a b : ℤ) → Is (a +ℤ b) (plus a + plus b) (minus a + minus b)
add_is (pos a) (pos b) = omega arith
add_is (pos a) (negsuc b) = omega (arith, sub_is a (suc b))
add_is (negsuc a) (pos b) = omega (arith, sub_is b (suc a))
add_is (negsuc a) (negsuc b) = omega arith

pub neg_is : (a : ℤ) → Is (neg_ℤ a) (minus a) (plus a)
neg_is (pos zero) = refl
neg_is (pos (suc a)) = omega arith
neg_is (negsuc a) = omega arith

pub mul_is : (a b : ℤ) → Is (a *ℤ b) (plus a * plus b + minus a * minus b) (plus a * minus b + minus a * plus b)
mul_is (pos a) (pos b) = omega arith
mul_is (pos a) (negsuc b) = omega (arith, neg_is (pos (a * suc b)))
mul_is (negsuc a) (pos b) = omega (arith, neg_is (pos (suc a * b)))
mul_is (negsuc a) (negsuc b) = omega arith

-- ---- multiples by a natural number
pub times-is : (u : ℤ) (d : ℕ) → Is (u *ℤ pos d) (plus u * d) (minus u * d)
times-is u d = omega (arith, mul_is u (pos d))

pub times-one : (u : ℤ) → u *ℤ pos 1 ≡ u
unfolding one
times-one u = *ℤ-one u

pub times-add : (u v : ℤ) (d : ℕ) → (u +ℤ v) *ℤ pos d ≡ u *ℤ pos d +ℤ v *ℤ pos d
times-add u v d =
    same ((u +ℤ v) *ℤ pos d) (u *ℤ pos d +ℤ v *ℤ pos d)
    (omega (arith, times-is (u +ℤ v) d, times-is u d, times-is v d, add_is (u *ℤ pos d) (v *ℤ pos d), ap (λ (z : ℕ). z * d) (add_is u v)))

-- ---- magnitudes
pub abs-most : (z : ℤ) (n : ℕ) → plus z ≤ minus z + n → minus z ≤ plus z + n → nat_abs z ≤ n
abs-most (pos a) n h g = omega arith
abs-most (negsuc a) n h g = omega arith

pub record Between (z : ℤ) : Type 0 where
  pub least : minus z ≤ plus z + nat_abs z
  pub most : plus z ≤ minus z + nat_abs z

pub abs-between : (z : ℤ) → Between z
abs-between (pos a) = record { least = omega arith; most = omega arith }
abs-between (negsuc a) = record { least = omega arith; most = omega arith }

pub abs-add : (a b : ℤ) → nat_abs (a +ℤ b) ≤ nat_abs a + nat_abs b
abs-add a b =
    let x = abs-between a in
    let y = abs-between b in
    abs-most (a +ℤ b) (nat_abs a + nat_abs b) (omega (arith, add_is a b, x, y)) (omega (arith, add_is a b, x, y))

-- ---- a sign and a magnitude
pub sign-plus : (s : Bool) (n : ℕ) → plus (with_sign s n) ≡ gain s n
sign-plus false n = refl
sign-plus true zero = refl
sign-plus true (suc n) = refl

pub sign-minus : (s : Bool) (n : ℕ) → minus (with_sign s n) ≡ loss s n
sign-minus false n = refl
sign-minus true zero = refl
sign-minus true (suc n) = refl

pub abs-sign : (s : Bool) (n : ℕ) → nat_abs (with_sign s n) ≡ n
abs-sign false n = refl
abs-sign true zero = refl
abs-sign true (suc n) = refl

pub abs-mul : (a b : ℤ) → nat_abs (a *ℤ b) ≡ nat_abs a * nat_abs b
abs-mul (pos a) (pos b) = refl
abs-mul (pos a) (negsuc b) = abs-sign true (a * suc b)
abs-mul (negsuc a) (pos b) = abs-sign true (suc a * b)
abs-mul (negsuc a) (negsuc b) = refl

-- z is n with the sign s
pub signed : (s : Bool) (z : ℤ) (n : ℕ) → Is z (gain s n) (loss s n) → z ≡ with_sign s n
signed false z n h = same z (pos n) (omega arith)
signed true z n h = same z (neg_ℤ (pos n)) (omega (arith, sign-plus true n, sign-minus true n))

pub sign-times : (s : Bool) (a d : ℕ) → with_sign s a *ℤ pos d ≡ with_sign s (a * d)
sign-times s a d =
    let z = with_sign s a *ℤ pos d in
    signed s z (a * d) (go s z (rw (sign-plus s a, sign-minus s a) at (times-is (with_sign s a) d)))
  where
    go : (s : Bool) (z : ℤ) → Is z (gain s a * d) (loss s a * d) → Is z (gain s (a * d)) (loss s (a * d))
    go false z h = omega arith
    go true z h = omega arith
