-- `Sum`, `Difference`, `Product` and `Quotient` of `specs/Arithmetic.antt` each determine their result.
use mathlib.Core.Path.{◌≡◌, sym, ◌∙◌}
use mathlib.Core.Logic.{inl, inr}
use mathlib.Core.Bool.{Bool, true, false, ◌&&◌}
use Prim.Native.Nat.{ℕ, zero, suc, ◌+◌, ◌-◌, ◌*◌, ◌<◌}
use native.Mathlib.Nat.{eq-or-lt_of_le, mul-pos, zero-lt-suc}
use lib.Ieee.{Float, nan, inf, fin, Format, up, down, unlike, neg}
use lib.Ieee.Fits.{up_pos, down_pos}
use Rattle.ieee.specs.Nearest.{Nearest, fraction}
use Rattle.ieee.specs.Arithmetic.{Rounded, gain, loss, Sum, Difference, Product, Quotient}
use Rattle.ieee.proofs.Grid.{or_lt}
use Rattle.ieee.proofs.Unique.{nearest-unique, fraction-cut}

one-nearest : (f : Format) (s : Bool) (a b : ℕ) (r r' : Float) → 0 < b → Nearest f (fraction a b) s r → Nearest f (fraction a b) s r' → r ≡ r'
one-nearest f s a b r r' B h g = nearest-unique f s (fraction a b) (fraction-cut a b B) r r' h g

rounded-unique : (f : Format) (P N D : ℕ) (z : Bool) (r r' : Float) → 0 < D → Rounded f P N D z r → Rounded f P N D z r' → r ≡ r'
rounded-unique f P N D z r r' d h g = elim (or_lt P N) [
  | inl le ↦ elim (eq-or-lt_of_le le) [
    | inl e ↦ h.none (sym e) ∙ sym (g.none (sym e))
    | inr l ↦ one-nearest f false (P - N) D r r' d (h.plus l) (g.plus l)
  ]
  | inr l ↦ one-nearest f true (N - P) D r r' d (h.minus l) (g.minus l)
]

pub sum-unique : (f : Format) (x y r r' : Float) → Sum f x y r → Sum f x y r' → r ≡ r'
sum-unique f nan y r r' h g = h ∙ sym g
sum-unique f (inf s) nan r r' h g = h ∙ sym g
sum-unique f (inf false) (inf false) r r' h g = h ∙ sym g
sum-unique f (inf false) (inf true) r r' h g = h ∙ sym g
sum-unique f (inf true) (inf false) r r' h g = h ∙ sym g
sum-unique f (inf true) (inf true) r r' h g = h ∙ sym g
sum-unique f (inf s) (fin t n d) r r' h g = h ∙ sym g
sum-unique f (fin s m e) nan r r' h g = h ∙ sym g
sum-unique f (fin s m e) (inf t) r r' h g = h ∙ sym g
sum-unique f (fin s m e) (fin t n d) r r' h g =
    let a = m * up e * down d in
    let b = n * up d * down e in
    rounded-unique f (gain s a + gain t b) (loss s a + loss t b) (down e * down d) (s && t) r r' (mul-pos (down_pos e) (down_pos d)) h g

pub difference-unique : (f : Format) (x y r r' : Float) → Difference f x y r → Difference f x y r' → r ≡ r'
difference-unique f x y = sum-unique f x (neg y)

pub product-unique : (f : Format) (x y r r' : Float) → Product f x y r → Product f x y r' → r ≡ r'
product-unique f nan y r r' h g = h ∙ sym g
product-unique f (inf s) nan r r' h g = h ∙ sym g
product-unique f (inf s) (inf t) r r' h g = h ∙ sym g
product-unique f (inf s) (fin t zero d) r r' h g = h ∙ sym g
product-unique f (inf s) (fin t (suc n) d) r r' h g = h ∙ sym g
product-unique f (fin s m e) nan r r' h g = h ∙ sym g
product-unique f (fin s zero e) (inf t) r r' h g = h ∙ sym g
product-unique f (fin s (suc m) e) (inf t) r r' h g = h ∙ sym g
product-unique f (fin s m e) (fin t n d) r r' h g =
    one-nearest f (unlike s t) (m * up e * (n * up d)) (down e * down d) r r' (mul-pos (down_pos e) (down_pos d)) h g

pub quotient-unique : (f : Format) (x y r r' : Float) → Quotient f x y r → Quotient f x y r' → r ≡ r'
quotient-unique f nan y r r' h g = h ∙ sym g
quotient-unique f (inf s) nan r r' h g = h ∙ sym g
quotient-unique f (inf s) (inf t) r r' h g = h ∙ sym g
quotient-unique f (inf s) (fin t n d) r r' h g = h ∙ sym g
quotient-unique f (fin s m e) nan r r' h g = h ∙ sym g
quotient-unique f (fin s m e) (inf t) r r' h g = h ∙ sym g
quotient-unique f (fin s zero e) (fin t zero d) r r' h g = h ∙ sym g
quotient-unique f (fin s (suc m) e) (fin t zero d) r r' h g = h ∙ sym g
quotient-unique f (fin s m e) (fin t (suc n) d) r r' h g =
    one-nearest f (unlike s t) (m * up e * down d) (suc n * up d * down e) r r' (mul-pos (mul-pos (zero-lt-suc n) (up_pos d)) (down_pos e)) h g
