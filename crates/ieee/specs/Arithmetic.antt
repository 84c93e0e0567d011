-- IEEE 754's addition, subtraction, multiplication and division (5.4.1), rounded to nearest with ties to even: what each result has to be, by the exact
-- result and `Nearest`, and by no way to compute it.
use Rattle.std.specs.Prelude.{◌≡◌, Bool, true, false, ◌&&◌, ℕ, zero, suc, ◌+◌, ◌-◌, ◌*◌, ◌<◌, pos, Float}
use Rattle.std.specs.Float.{nan, inf, fin, Format}
use Rattle.std.specs.Float.Ieee.{up, down, unlike, neg}
use Rattle.ieee.specs.Nearest.{Nearest, fraction}

-- r is (P - N) / D, rounded. Where that is zero, z is the sign of the zero.
pub record Rounded (f : Format) (P N D : ℕ) (z : Bool) (r : Float) : Type 0 where
  pub plus : N < P → Nearest f (fraction (P - N) D) false r
  pub minus : P < N → Nearest f (fraction (N - P) D) true r
  pub none : P ≡ N → r ≡ fin z 0 (pos 0)

-- ±a as a difference of two natural numbers
abbrev pub gain : Bool → ℕ → ℕ
gain false a = a
gain true a = 0

abbrev pub loss : Bool → ℕ → ℕ
loss false a = 0
loss true a = a

-- x + y. The fractions m * up e / down e and n * up d / down d are brought to one denominator. A sum that is exactly zero is -0 where both are negative.
abbrev pub Sum : Format → Float → Float → Float → Type 0
Sum f nan y r = r ≡ nan
Sum f (inf s) nan r = r ≡ nan
Sum f (inf false) (inf false) r = r ≡ inf false
Sum f (inf false) (inf true) r = r ≡ nan
Sum f (inf true) (inf false) r = r ≡ nan
Sum f (inf true) (inf true) r = r ≡ inf true
Sum f (inf s) (fin t n d) r = r ≡ inf s
Sum f (fin s m e) nan r = r ≡ nan
Sum f (fin s m e) (inf t) r = r ≡ inf t
Sum f (fin s m e) (fin t n d) r =
    let a = m * up e * down d in
    let b = n * up d * down e in
    Rounded f (gain s a + gain t b) (loss s a + loss t b) (down e * down d) (s && t) r

-- x - y
abbrev pub Difference : Format → Float → Float → Float → Type 0
Difference f x y r = Sum f x (neg y) r

-- x * y
abbrev pub Product : Format → Float → Float → Float → Type 0
Product f nan y r = r ≡ nan
Product f (inf s) nan r = r ≡ nan
Product f (inf s) (inf t) r = r ≡ inf (unlike s t)
Product f (inf s) (fin t zero d) r = r ≡ nan
Product f (inf s) (fin t (suc n) d) r = r ≡ inf (unlike s t)
Product f (fin s m e) nan r = r ≡ nan
Product f (fin s zero e) (inf t) r = r ≡ nan
Product f (fin s (suc m) e) (inf t) r = r ≡ inf (unlike s t)
Product f (fin s m e) (fin t n d) r = Nearest f (fraction (m * up e * (n * up d)) (down e * down d)) (unlike s t) r

-- x / y
abbrev pub Quotient : Format → Float → Float → Float → Type 0
Quotient f nan y r = r ≡ nan
Quotient f (inf s) nan r = r ≡ nan
Quotient f (inf s) (inf t) r = r ≡ nan
Quotient f (inf s) (fin t n d) r = r ≡ inf (unlike s t)
Quotient f (fin s m e) nan r = r ≡ nan
Quotient f (fin s m e) (inf t) r = r ≡ fin (unlike s t) 0 (pos 0)
Quotient f (fin s zero e) (fin t zero d) r = r ≡ nan
Quotient f (fin s (suc m) e) (fin t zero d) r = r ≡ inf (unlike s t)
Quotient f (fin s m e) (fin t (suc n) d) r = Nearest f (fraction (m * up e * down d) (suc n * up d * down e)) (unlike s t) r
