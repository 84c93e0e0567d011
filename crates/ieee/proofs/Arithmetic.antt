-- `lib.Ieee`'s `add`, `sub`, `mul` and `div`, which are what `+`, `-`, `*` and `/` do, are IEEE 754's operations of `specs/Arithmetic.antt`.
use mathlib.Core.Path.{◌≡◌, refl, sym, ap, ◌∙◌, subst}
use mathlib.Core.Bool.{Bool, true, false, not, cond}
use Prim.Native.Nat.{ℕ, zero, suc, ◌+◌, ◌-◌, ◌*◌, ◌^◌, ◌≤◌, ◌<◌}
use native.Mathlib.Nat.{zero-mul, mul-pos, zero-lt-suc}
use native.Mathlib.Omega.{arith}
use lib.IntN.{ℤ, pos}
use lib.Dec.{T, ltb, eqb, lt→ltb, ltb→lt, nltb→le, eqb-suc-zero}
use lib.Pow.{pow_pos}
use lib.Ieee.{Float, nan, inf, fin, Format, prec, emax, low, up, down, unlike, odd, units, round, neg, sum, add, sub, mul, div}
use lib.Ieee.Fits.{round_is, up_pos, down_pos}
use lib.Ieee.Order.{drop, kept}
use Rattle.ieee.specs.Nearest.{Nearest, fraction}
use Rattle.ieee.specs.Arithmetic.{Rounded, Sum, Difference, Product, Quotient}
use Rattle.ieee.proofs.Grid.{overflow}
use Rattle.ieee.proofs.Fractions.{closest-half, round-nearest}

-- ---- `round` at zero
units-zero : (f : Format) (s : Bool) (k : ℕ) → units f s 0 k ≡ fin s 0 (pos 0)
unfolding units odd
units-zero f s k = ap (λ (z : ℕ). cond (ltb z (overflow f)) (fin s 0 (pos 0)) (inf s)) (zero-mul (2 ^ k))
    ∙ go (ltb 0 (overflow f)) (lt→ltb 0 (overflow f) (pow_pos (low f + suc (emax f))))
  where
    go : (b : Bool) → T b → cond b (fin s 0 (pos 0)) (inf s) ≡ fin s 0 (pos 0)
    go true t = refl
    go false t = absurd t

is_zero : (q u L : ℕ) → 0 < u → q * u + q * u ≤ 0 * L + 0 * L + u → q ≡ 0
is_zero zero u L h g = refl
is_zero (suc q) u L h g = absurd (omega arith)

pub round-zero : (f : Format) (s : Bool) (c : ℕ) → 0 < c → round f s 0 c ≡ fin s 0 (pos 0)
round-zero f s c C =
    let k = drop (prec f) (0 * 2 ^ low f) c in
    let u = c * 2 ^ k in
    round_is f s 0 c
    ∙ ap (λ (q : ℕ). units f s q k) (is_zero (kept (prec f) (0 * 2 ^ low f) c) u (2 ^ low f) (mul-pos C (pow_pos k))
    (closest-half (0 * 2 ^ low f) u (mul-pos C (pow_pos k))).lo)
    ∙ units-zero f s k

-- ---- sums
at : (f : Format) (s : Bool) (a b c : ℕ) → a ≡ b → 0 < c → Nearest f (fraction b c) s (round f s a c)
at f s a b c e C = subst (λ (x : ℕ). Nearest f (fraction x c) s (round f s a c)) e (round-nearest f s a c C)

at_zero : (f : Format) (s : Bool) (a c : ℕ) → a ≡ 0 → 0 < c → round f s a c ≡ fin s 0 (pos 0)
at_zero f s a c e C = ap (λ (x : ℕ). round f s x c) e ∙ round-zero f s c C

no-loss : (a b : ℕ) → a + b ≡ a + b - 0
no-loss a b = omega arith

below-zero : (a b : ℕ) → a + b < 0 → ⊥
below-zero a b h = omega arith

sum-plus : (f : Format) (a b c : ℕ) → 0 < c → Rounded f (a + b) 0 c false (round f false (a + b) c)
sum-plus f a b c C = record {
  plus = λ h. at f false (a + b) (a + b - 0) c (no-loss a b) C;
  minus = λ h. absurd (below-zero a b h);
  none = λ e. at_zero f false (a + b) c e C;
}

sum-minus : (f : Format) (a b c : ℕ) → 0 < c → Rounded f 0 (a + b) c true (round f true (a + b) c)
sum-minus f a b c C = record {
  plus = λ h. absurd (below-zero a b h);
  minus = λ h. at f true (a + b) (a + b - 0) c (no-loss a b) C;
  none = λ e. at_zero f true (a + b) c (sym e) C;
}

-- a - b, and b - a
module _ (f : Format) (a b c : ℕ) (C : 0 < c) where
  less : (t : Bool) → (T t → a < b) → (T (not t) → b ≤ a) → Rounded f (a + 0) (0 + b) c false (cond t (round f true (b - a) c) (round f false (a - b) c))
  less true h g = let l = h tt in
      record { plus = λ z. absurd (omega arith); minus = λ z. at f true (b - a) (0 + b - (a + 0)) c (omega arith) C; none = λ e. absurd (omega arith) }
  less false h g = let l = g tt in
      record {
        plus = λ z. at f false (a - b) (a + 0 - (0 + b)) c (omega arith) C;
        minus = λ z. absurd (omega arith);
        none = λ e. at_zero f false (a - b) c (omega arith) C;
      }

  more : (t u : Bool) → (T t → a < b) → (T (not t) → b ≤ a) → (T u → b < a) → (T (not u) → a ≤ b)
      → Rounded f (0 + b) (a + 0) c false (cond t (round f false (b - a) c) (round f u (a - b) c))
  more true u h g k m = let l = h tt in
      record { plus = λ z. at f false (b - a) (0 + b - (a + 0)) c (omega arith) C; minus = λ z. absurd (omega arith); none = λ e. absurd (omega arith) }
  more false true h g k m = let l = k tt in
      record { plus = λ z. absurd (omega arith); minus = λ z. at f true (a - b) (a + 0 - (0 + b)) c (omega arith) C; none = λ e. absurd (omega arith) }
  more false false h g k m = let l = g tt in
      let n = m tt in
      record { plus = λ z. absurd (omega arith); minus = λ z. absurd (omega arith); none = λ e. at_zero f false (a - b) c (omega arith) C }

c_pos : (e d : ℤ) → 0 < down e * down d
c_pos e d = mul-pos (down_pos e) (down_pos d)

pub add-correct : (f : Format) (x y : Float) → Sum f x y (add f x y)
unfolding add sum
add-correct f nan y = refl
add-correct f (inf s) nan = refl
add-correct f (inf false) (inf false) = refl
add-correct f (inf false) (inf true) = refl
add-correct f (inf true) (inf false) = refl
add-correct f (inf true) (inf true) = refl
add-correct f (inf s) (fin t n d) = refl
add-correct f (fin s m e) nan = refl
add-correct f (fin s m e) (inf t) = refl
add-correct f (fin false m e) (fin false n d) = sum-plus f (m * up e * down d) (n * up d * down e) (down e * down d) (c_pos e d)
add-correct f (fin true m e) (fin true n d) = sum-minus f (m * up e * down d) (n * up d * down e) (down e * down d) (c_pos e d)
add-correct f (fin false m e) (fin true n d) =
    let a = m * up e * down d in
    let b = n * up d * down e in
    less f a b (down e * down d) (c_pos e d) (ltb a b) (ltb→lt a b) (nltb→le a b)
add-correct f (fin true m e) (fin false n d) =
    let a = m * up e * down d in
    let b = n * up d * down e in
    more f a b (down e * down d) (c_pos e d) (ltb a b) (ltb b a) (ltb→lt a b) (nltb→le a b) (ltb→lt b a) (nltb→le b a)

pub sub-correct : (f : Format) (x y : Float) → Difference f x y (sub f x y)
unfolding sub
sub-correct f x y = add-correct f x (neg y)

-- ---- products and quotients
at_suc : (X : Type 0) (m : ℕ) (x y : X) → cond (eqb (suc m) 0) x y ≡ y
at_suc X m x y = ap (λ (b : Bool). cond b x y) (eqb-suc-zero m)

pub mul-correct : (f : Format) (x y : Float) → Product f x y (mul f x y)
unfolding mul
mul-correct f nan y = refl
mul-correct f (inf s) nan = refl
mul-correct f (inf s) (inf t) = refl
mul-correct f (inf s) (fin t zero d) = refl
mul-correct f (inf s) (fin t (suc n) d) = at_suc Float n nan (inf (unlike s t))
mul-correct f (fin s m e) nan = refl
mul-correct f (fin s zero e) (inf t) = refl
mul-correct f (fin s (suc m) e) (inf t) = at_suc Float m nan (inf (unlike s t))
mul-correct f (fin s m e) (fin t n d) = round-nearest f (unlike s t) (m * up e * (n * up d)) (down e * down d) (c_pos e d)

pub div-correct : (f : Format) (x y : Float) → Quotient f x y (div f x y)
unfolding div
div-correct f nan y = refl
div-correct f (inf s) nan = refl
div-correct f (inf s) (inf t) = refl
div-correct f (inf s) (fin t n d) = refl
div-correct f (fin s m e) nan = refl
div-correct f (fin s m e) (inf t) = refl
div-correct f (fin s zero e) (fin t zero d) = refl
div-correct f (fin s (suc m) e) (fin t zero d) = at_suc Float m nan (inf (unlike s t))
div-correct f (fin s m e) (fin t (suc n) d) =
    let r = round f (unlike s t) (m * up e * down d) (suc n * up d * down e) in
    subst (λ (x : Float). Nearest f (fraction (m * up e * down d) (suc n * up d * down e)) (unlike s t) x)
    (sym (at_suc Float n (cond (eqb m 0) nan (inf (unlike s t))) r))
    (round-nearest f (unlike s t) (m * up e * down d) (suc n * up d * down e) (mul-pos (mul-pos (zero-lt-suc n) (up_pos d)) (down_pos e)))

pub ruleset correct_rules = (add-correct, sub-correct, mul-correct, div-correct)
