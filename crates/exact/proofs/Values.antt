-- Finite values of a format, as whole numbers.
use mathlib.Core.Path.{◌≡◌, refl, sym, ap, ap₂, ◌∙◌}
use mathlib.Core.Bool.{Bool, true, false, true≢false}
use Prim.Native.Nat.{ℕ, ◌*◌, ◌/◌, ◌^◌, ◌<◌}
use native.Mathlib.Nat.{mul-div_cancel}
use native.Mathlib.Omega.{arith}
use lib.IntN.{ℤ, pos, nat_abs}
use lib.Ieee.{Float, nan, inf, fin, Format, prec, down}
use lib.Ieee.Exact.{HasValue}
use lib.Ieee.Fits.{down_pos}
use lib.Ieee.Scale.{finite}
use Rattle.ieee.proofs.Grid.{on-grid}
use Rattle.exact.specs.Scaled.{IsValue, scale, with_sign, scaled}
use Rattle.exact.proofs.Whole.{abs-sign}

pub record FiniteValue (f : Format) (x : Float) : Type 0 where
  pub is_value : IsValue f x
  pub is_finite : finite x ≡ true

-- what holds of two finite values by their parts holds of them
pub two-finite : (f : Format) (P : Float → Float → Type 0)
    → ((s t : Bool) (m n : ℕ) (e d : ℤ) → IsValue f (fin s m e) → IsValue f (fin t n d) → P (fin s m e) (fin t n d)) → (x y : Float) → FiniteValue f x
    → FiniteValue f y → P x y
two-finite f P h nan y v w = absurd (true≢false (sym v.is_finite))
two-finite f P h (inf s) y v w = absurd (true≢false (sym v.is_finite))
two-finite f P h (fin s m e) nan v w = absurd (true≢false (sym w.is_finite))
two-finite f P h (fin s m e) (inf t) v w = absurd (true≢false (sym w.is_finite))
two-finite f P h (fin s m e) (fin t n d) v w = h s t m n e d v.is_value w.is_value

-- ---- from what a float's value is to its whole number

pub scaled_value : (f : Format) (s : Bool) (x : Float) (n : ℕ) → HasValue x s n (scale f) → scaled f x ≡ with_sign s n
unfolding scaled
scaled_value f s nan n v = absurd v
scaled_value f s (inf t) n v = absurd v
scaled_value f s (fin t m e) n v = ap₂ with_sign v.0 (ap (λ (z : ℕ). z / down e) v.1 ∙ mul-div_cancel n (down_pos e))

pub value-finite : (s : Bool) (x : Float) (a b : ℕ) → HasValue x s a b → finite x ≡ true
value-finite s nan a b v = absurd v
value-finite s (inf t) a b v = absurd v
value-finite s (fin t m e) a b v = refl

-- ---- and back: the division in `scaled` leaves no rest

-- a value of the format is a whole number of few digits
pub record Digits (f : Format) (x : Float) : Type 0 where
  pub q : ℕ
  pub i : ℕ
  pub few : q < 2 ^ prec f
  pub value : nat_abs (scaled f x) ≡ q * 2 ^ i

module _ (f : Format) (s : Bool) (m : ℕ) (e : ℤ) (h : IsValue f (fin s m e)) where
  pub own_value : HasValue (fin s m e) s (nat_abs (scaled f (fin s m e))) (scale f)
  own_value =
      let o = on-grid f s (fin s m e) h refl in
      let n = o.n * 2 ^ o.j in
      (refl, o.value ∙ ap (λ (z : ℕ). z * down e) (sym (ap nat_abs (scaled_value f s (fin s m e) n (refl, o.value)) ∙ abs-sign s n)))

  pub own_sign : scaled f (fin s m e) ≡ with_sign s (nat_abs (scaled f (fin s m e)))
  own_sign = scaled_value f s (fin s m e) (nat_abs (scaled f (fin s m e))) own_value

pub digits : (f : Format) (x : Float) → FiniteValue f x → Digits f x
digits f nan v = absurd (true≢false (sym v.is_finite))
digits f (inf s) v = absurd (true≢false (sym v.is_finite))
digits f (fin s m e) v =
    let o = on-grid f s (fin s m e) v.is_value refl in
    let n = o.n * 2 ^ o.j in
    record { q = o.n; i = o.j; few = o.digits; value = ap nat_abs (scaled_value f s (fin s m e) n (refl, o.value)) ∙ abs-sign s n }

-- a zero, of either sign
pub scaled-zero : (f : Format) (z : Bool) → scaled f (fin z 0 (pos 0)) ≡ pos 0
scaled-zero f z = scaled_value f z (fin z 0 (pos 0)) 0 (refl, none (scale f)) ∙ unsigned z
  where
    none : (l : ℕ) → 0 * 1 * l ≡ 0 * 1
    none l = omega arith

    unsigned : (z : Bool) → with_sign z 0 ≡ pos 0
    unsigned true = refl
    unsigned false = refl
