-- A decimal's digits over its power of ten, and the one division: the nearest double.
use Prim.Native.Nat.{ℕ, zero, suc, ◌*◌, ◌^◌, ◌<◌, ◌≤◌}
use mathlib.Core.Path.{◌≡◌, refl, sym, ap, ◌∙◌, subst}
use mathlib.Core.Bool.{Bool, false}
use mathlib.Core.List.{List, ◌++◌}
use native.Mathlib.Nat.{le_trans, le_of_eq, mul_assoc, mul_comm, mul_right_comm, mul-mul-mul_comm, mul-le-mul_right, le_of_mul-le-mul_right, mul-pos}
use native.Mathlib.Nat.{one-le-pow, pow-succ'}
use native.Mathlib.Omega.{arith}
use lib.IntN.{ℤ, pos}
use lib.ListN.{length}
use lib.Pow.{pow_pos}
use lib.Ieee.{Float, nan, inf, fin, Format, binary64, up, down, div, of_int}
use lib.Ieee.Exact.{HasValue}
use lib.Ieee.Fits.{down_pos}
use lib.Ieee.Back.{round_whole}
use Rattle.std.proofs.Common.{Some}
use Rattle.std.proofs.lemmas.Bool.Decides.{nat_tests}
use Rattle.std.proofs.lemmas.Option.{cond_some}
use Rattle.ieee.specs.Nearest.{Nearest, fraction, mid_num, mid_den}
use Rattle.ieee.specs.Arithmetic.{Quotient}
use Rattle.ieee.proofs.Arithmetic.{div-correct}
use Rattle.text_decimals.specs.Decimals.{value_after, decimal}
use Rattle.text_decimals.proofs.Powers.{power-is}

-- ---- two fractions that are equal compare alike with every other
module _ (p q p' q' : ℕ) (h : 0 < q) (same : p * q' ≡ p' * q) where
  at_most : (a b : ℕ) → p * b ≤ a * q → p' * b ≤ a * q'
  at_most a b l =
      le_of_mul-le-mul_right
      (le_trans (le_of_eq (mul_right_comm p' b q ∙ ap (λ (z : ℕ). z * b) (sym same) ∙ mul_right_comm p q' b))
      (le_trans (mul-le-mul_right q' l) (le_of_eq (mul_right_comm a q q')))) h

  at_least : (a b : ℕ) → a * q ≤ p * b → a * q' ≤ p' * b
  at_least a b l =
      le_of_mul-le-mul_right
      (le_trans (le_of_eq (mul_right_comm a q' q)) (le_trans (mul-le-mul_right q' l)
      (le_of_eq (mul_right_comm p b q' ∙ ap (λ (z : ℕ). z * b) same ∙ mul_right_comm p' q b)))) h

nearest-same : (f : Format) (p q p' q' : ℕ) (s : Bool) (r : Float) → 0 < q → 0 < q' → p * q' ≡ p' * q → Nearest f (fraction p q) s r
    → Nearest f (fraction p' q') s r
nearest-same f p q p' q' s r h h' e n = record {
  held = n.held;
  sign = n.sign;
  from_above = λ w t g l. at_most p q p' q' h e (mid_num f r w) (mid_den r w) (n.from_above w t g l);
  from_below = λ w t g l. at_least p q p' q' h e (mid_num f r w) (mid_den r w) (n.from_below w t g l);
  tie_above = λ w t g l k. n.tie_above w t g l (at_least p' q' p q h' (sym e) (mid_num f r w) (mid_den r w) k);
  tie_below = λ w t g l k. n.tie_below w t g l (at_most p' q' p q h' (sym e) (mid_num f r w) (mid_den r w) k);
}

-- ---- the division
ten : (k : ℕ) → 5 ^ k * 2 ^ k ≡ 10 ^ k
ten zero = refl
ten (suc k) = rw (pow-succ', pow-succ', pow-succ') (mul-mul-mul_comm 5 (5 ^ k) 2 (2 ^ k) ∙ ap (λ (z : ℕ). 10 * z) (ten k))

quotient : (m : ℕ) (e : ℤ) (n k : ℕ) (r : Float) → 0 < n → Quotient binary64 (fin false m e) (fin false n (pos k)) r
    → Nearest binary64 (fraction (m * up e * 1) (n * 2 ^ k * down e)) false r
quotient m e zero k r h d = absurd (omega arith)
quotient m e (suc n) k r h d = d

over-power : (x : Float) (v k : ℕ) → HasValue x false v 1 → k < 23
    → Nearest binary64 (fraction v (10 ^ k)) false (div binary64 x (of_int binary64 (pos (10 ^ k))))
over-power nan v k h l = absurd h
over-power (inf s) v k h l = absurd h
over-power (fin s m e) v k h l =
    let P = 5 ^ k in
    let P_pos : 0 < P = one-le-pow k 5 (omega arith) in
    let Q-pos : 0 < P * 2 ^ k * down e = mul-pos (mul-pos P_pos (pow_pos k)) (down_pos e) in
    let eq : m * up e * 1 * 10 ^ k ≡ v * (P * 2 ^ k * down e) =
    ap (λ (z : ℕ). z * 10 ^ k) h.1 ∙ mul_assoc v (down e) (10 ^ k)
    ∙ ap (λ (z : ℕ). v * z) (mul_comm (down e) (10 ^ k) ∙ ap (λ (z : ℕ). z * down e) (sym (ten k))) in
    nearest-same binary64 (m * up e * 1) (P * 2 ^ k * down e) v (10 ^ k) false _ Q-pos (one-le-pow k 10 (omega arith)) eq
    (quotient m e P k _ P_pos
    (subst (λ (y : Float). Quotient binary64 (fin false m e) (fin false P (pos k)) (div binary64 (fin s m e) y)) (sym (power-is k l))
    (subst (λ (t : Bool). Quotient binary64 (fin false m e) (fin false P (pos k)) (div binary64 (fin t m e) (fin false P (pos k)))) (sym h.0)
    (div-correct binary64 (fin false m e) (fin false P (pos k))))))

-- ---- a decimal that is accepted
-- the value that the definition gives is the double nearest to its digits over the power of ten
pub decimal-nearest : (whole places : List ℕ) (x : Float) → decimal whole places ≡ Some x
    → Nearest binary64 (fraction (value_after 10 0 (whole ++ places)) (10 ^ length places)) false x
unfolding decimal of_int
decimal-nearest whole places x h =
    let digits = value_after 10 0 (whole ++ places) in
    let k = length places in
    let accepted = cond_some _ _ _ h in
    let bounds : (digits < 10 ^ 15) × (k ≤ 22) = grind (arith, nat_tests, accepted.0) in
    subst (λ (z : Float). Nearest binary64 (fraction digits (10 ^ k)) false z) accepted.1
    (over-power (of_int binary64 (pos digits)) digits k (round_whole binary64 false digits (omega (arith, bounds.0))) (omega (arith, bounds.1)))
