-- The nearest whole number, from a float that is rounded to a whole one and then cast, and said without a way to compute it.
use Rattle.std.proofs.Common.{◌≡◌, ℕ, ◌+◌, ◌-◌, ◌*◌, ◌/◌, ◌%◌, ◌^◌, ◌≤◌, Bool, true, false, ◌||◌, T, ℤ, pos, refl, ap, ◌∙◌}
use Rattle.std.proofs.Common.{inl, inr, suc-le-suc, le_trans, le_of_eq, mul-le-mul_right, mul_comm, mul-one, mul-div_cancel, arith, lit≤}
use Rattle.std.proofs.Common.{lt→ltb, sym, min}
use Prim.Native.Nat.{compare}
use native.Mathlib.Nat.{div-le_of_le-mul}
use lib.Ieee.{Float, nan, inf, fin, binary64, up, down, lt, le, to_signed}
use lib.Ieee.Back.{round_whole}
use lib.Ieee.Exact.{HasValue}
use lib.Ieee.Fits.{down_pos, nearest-le}
use lib.Ieee.Nearest.{closest}
use lib.Ieee.Positive.{num, den}
use Rattle.std.specs.Float.{round_with, round_ties_even, minus_two_to, two_to, ◌≤ᶠ◌, ◌<ᶠ◌}
use Rattle.ieee.proofs.Fractions.{Half, closest-half}
use Rattle.elementary.specs.Whole.{Within, signed, nearest_of, NearestWhole}

-- ---- how large it is
pub whole_le : (x : Float) → Within (2 ^ 52) x → num x / den x ≤ 2 ^ 52
unfolding Within
whole_le nan h = absurd h
whole_le (inf s) h = absurd h
whole_le (fin s m e) h = div-le_of_le-mul (down e) (le_trans h (le_of_eq (mul_comm (2 ^ 52) (down e))))

pub closest-le : (x : Float) → Within (2 ^ 52) x → closest (num x) (den x) ≤ 2 ^ 53
closest-le x h = le_trans (nearest-le (num x / den x) (compare (num x % den x * 2) (den x))) (le_trans (suc-le-suc (whole_le x h)) (lit≤ tt))

-- ---- a float that is a whole number of at most 2 ^ 53 in size: its order with the ends of the signed numbers, and its cast
or_left : (a b : Bool) → T a → T (a || b)
or_left true b t = tt
or_left false b t = absurd t

module _ (s : Bool) (n : ℕ) (small : n ≤ 2 ^ 53) where
  whole-low : (y : Float) → HasValue y s n 1 → T (le (fin true 1 (pos 63)) y)
  unfolding le lt
  whole-low nan v = absurd v
  whole-low (inf t) v = absurd v
  whole-low (fin true m e) v = let l = mul-le-mul_right (down e) small in
      or_left _ _ (lt→ltb (m * up e * 1) (1 * 2 ^ 63 * down e) (let p = down_pos e in omega arith))
  whole-low (fin false m e) v = or_left _ _ (lt→ltb 0 (1 * 2 ^ 63 * down e + m * up e * 1) (let p = down_pos e in omega arith))

  whole-high : (y : Float) → HasValue y s n 1 → T (lt y (fin false 1 (pos 63)))
  unfolding lt
  whole-high nan v = absurd v
  whole-high (inf t) v = absurd v
  whole-high (fin true m e) v = lt→ltb 0 (m * up e * 1 + 1 * 2 ^ 63 * down e) (let p = down_pos e in omega arith)
  whole-high (fin false m e) v = let l = mul-le-mul_right (down e) small in
      lt→ltb (m * up e * 1) (1 * 2 ^ 63 * down e) (let p = down_pos e in omega arith)

  whole-cast : (y : Float) → HasValue y s n 1 → to_signed 63 y ≡ signed s n
  unfolding to_signed
  whole-cast nan v = absurd v
  whole-cast (inf t) v = absurd v
  whole-cast (fin t m e) v =
      let q : m * up e / down e ≡ n = ap (λ (z : ℕ). z / down e) (sym (mul-one (m * up e)) ∙ v.1) ∙ mul-div_cancel n (down_pos e) in
      let a : min n (2 ^ 63) ≡ n = omega arith in
      let b : min n (2 ^ 63 - 1) ≡ n = omega arith in
      rw (v.0, q, a, b)

-- ---- what `nearest` does
rounded-value : (s : Bool) (m : ℕ) (e : ℤ) → Within (2 ^ 52) (fin s m e)
    → HasValue (round_with closest closest binary64 (fin s m e)) s (closest (m * up e) (down e)) 1
unfolding round_with
rounded-value true m e h = round_whole binary64 true (closest (m * up e) (down e)) (closest-le (fin true m e) h)
rounded-value false m e h = round_whole binary64 false (closest (m * up e) (down e)) (closest-le (fin false m e) h)

pub nearest-low : (t : Float) → Within (2 ^ 52) t → minus_two_to 63 ≤ᶠ round_ties_even binary64 t
nearest-low nan h = unfold Within in absurd h
nearest-low (inf s) h = unfold Within in absurd h
nearest-low (fin s m e) h =
    whole-low s (closest (m * up e) (down e)) (closest-le (fin s m e) h) (round_with closest closest binary64 (fin s m e)) (rounded-value s m e h)

pub nearest-high : (t : Float) → Within (2 ^ 52) t → round_ties_even binary64 t <ᶠ two_to 63
nearest-high nan h = unfold Within in absurd h
nearest-high (inf s) h = unfold Within in absurd h
nearest-high (fin s m e) h =
    whole-high s (closest (m * up e) (down e)) (closest-le (fin s m e) h) (round_with closest closest binary64 (fin s m e)) (rounded-value s m e h)

pub nearest-cast : (t : Float) → Within (2 ^ 52) t → to_signed 63 (round_ties_even binary64 t) ≡ nearest_of t
unfolding nearest_of
nearest-cast nan h = unfold Within in absurd h
nearest-cast (inf s) h = unfold Within in absurd h
nearest-cast (fin s m e) h =
    whole-cast s (closest (m * up e) (down e)) (closest-le (fin s m e) h) (round_with closest closest binary64 (fin s m e)) (rounded-value s m e h)

pub ruleset nearest_rules = (nearest-low, nearest-high, nearest-cast)

-- ---- the nearest whole number, without a way to compute it
pub nearest-whole : (s : Bool) (m : ℕ) (e : ℤ) → NearestWhole s (m * up e) (down e) (nearest_of (fin s m e))
unfolding nearest_of
nearest-whole s m e =
    let n = closest (m * up e) (down e) in
    let h : Half n (down e) (m * up e) = closest-half (m * up e) (down e) (down_pos e) in
    record {
      n = n;
      whole = refl;
      above = omega (arith, h.hi);
      below = omega (arith, h.lo);
      even = λ t. elim t [ inl p ↦ h.tie-hi (omega arith) | inr p ↦ h.tie-lo (omega arith) ];
    }
