-- What is nearest is an infinity exactly from 2 ^ emax * (2 - 2 ^ -prec) on, as IEEE 754 (4.3.1) says (`overflows`, `overflows-back`), for every
-- format and every real number. So counting an infinity as 2 ^ (emax + 1), as `num` does, is what the standard asks.
use mathlib.Core.Path.{◌≡◌, refl, sym, ap, ◌∙◌, subst}
use mathlib.Core.Logic.{inl, inr}
use mathlib.Core.Bool.{Bool}
use Prim.Native.Nat.{ℕ, zero, suc, ◌+◌, ◌-◌, ◌*◌, ◌^◌, ◌≤◌, ◌<◌}
use native.Mathlib.Nat.{le_refl, le_step, le_trans, le_of_eq, le_of_lt, add_comm, add-mul, lt_of_lt_of_le, lt_irrefl, not-le_of_lt, eq-or-lt_of_le, mul_assoc}
use native.Mathlib.Nat.{mul_comm, mul-lt-mul_of_pos_right, eq_of_mul-eq-mul_right, pow-succ'}
use native.Mathlib.Omega.{arith}
use lib.Dec.{T}
use lib.Pow.{pow-add, pow_pos, pow_mono}
use lib.Ieee.{Float, nan, inf, fin, Format, prec, emax, low, odd, fits}
use lib.Ieee.Exact.{odd_sign}
use lib.Ieee.Fits.{two, two-le_pos, odd-fits, inf-fits}
use Rattle.ieee.specs.Nearest.{Real, fraction, num, den, Smaller, mid_num, mid_den, edge_num, edge_den, Even, Nearest}
use Rattle.ieee.proofs.Grid.{mid-pos, half_pos, on-grid, fits_below, den_pos, overflow, Lawful, next_up, or_lt, order, middle, signed, counted}
use Rattle.ieee.proofs.Fractions.{fraction-lawful, spare, spare-is, inf-value}
use Rattle.ieee.proofs.Unique.{Cut, fraction-cut, back-order, not-next}

-- ---- the largest significand
module _ (p : ℕ) (P : 2 ≤ p) where
  before : suc (p - 1) ≡ p
  before = omega arith

  twice : 2 ^ p ≡ 2 * 2 ^ (p - 1)
  twice = ap (λ (x : ℕ). 2 ^ x) (sym before) ∙ pow-succ' 2 (p - 1)

  big : 2 ≤ 2 ^ (p - 1)
  big = pow_mono {i = 1} (omega arith)

  -- with H = 2 ^ (p - 1), the largest is 2 * H - 1, and the even one before it 2 * (H - 1)
  last : suc (2 * (2 ^ (p - 1) - 1)) ≡ 2 ^ p - 1
  last = go (2 ^ p) (2 ^ (p - 1)) twice big
    where
      go : (x h : ℕ) → x ≡ 2 * h → 2 ≤ h → suc (2 * (h - 1)) ≡ x - 1
      go x h e b = omega arith

  lead : 2 ^ (p - 1) ≤ 2 * (2 ^ (p - 1) - 1)
  lead = go (2 ^ (p - 1)) big
    where
      go : (h : ℕ) → 2 ≤ h → h ≤ 2 * (h - 1)
      go h b = omega arith

  small : 2 * (2 ^ (p - 1) - 1) < 2 ^ p
  small = go (2 ^ p) (2 ^ (p - 1)) twice big
    where
      go : (x h : ℕ) → x ≡ 2 * h → 2 ≤ h → 2 * (h - 1) < x
      go x h e b = omega arith

  lead-last : 2 ^ (p - 1) ≤ 2 ^ p - 1
  lead-last = go (2 ^ p) (2 ^ (p - 1)) twice big
    where
      go : (x h : ℕ) → x ≡ 2 * h → 2 ≤ h → h ≤ x - 1
      go x h e b = omega arith

  under : 2 ^ p - 1 < 2 ^ p
  under = omega (arith, pow_pos p)

one-off : (x U : ℕ) → 0 < x → (x - 1) * U + U ≡ x * U
one-off zero U h = absurd (lt_irrefl 0 h)
one-off (suc x) U h = ap (λ (z : ℕ). z * U + U) {y = x} (omega arith) ∙ (omega arith)

-- the middle between the largest value and the infinity, twice and in smallest values, is the edge
double-less : (x y O : ℕ) → y ≡ 2 * x → 0 < x → (U : ℕ) → x * U ≡ O → (y - 1) * U ≡ (x - 1) * U + O
double-less zero y O e h U o = absurd (lt_irrefl 0 h)
double-less (suc x) y O e h U o = ap (λ (z : ℕ). (z - 1) * U) e ∙ ap (λ (z : ℕ). z * U) (omega arith) ∙ rows x U ∙ ap (λ (z : ℕ). (suc x - 1) * U + z) o
  where
    rows : (x U : ℕ) → (x + suc x) * U ≡ (suc x - 1) * U + suc x * U
    rows x U = add-mul x (suc x) U ∙ ap (λ (z : ℕ). z * U + suc x * U) (omega arith)

join : (a b c d e m : ℕ) → a * c ≡ m * e → d * c ≡ m * b → a * b * c ≡ d * e * c
join a b c d e m x y = omega (arith, ap (λ (z : ℕ). z * b) x, ap (λ (z : ℕ). z * e) y)

module _ (f : Format) where
  abbrev U : ℕ
  U = 2 ^ spare f

  abbrev top : ℕ
  top = (2 ^ prec f - 1) * 2 ^ spare f

  edge-value : edge_num f * (2 * 2 ^ low f) ≡ (top + overflow f) * edge_den f
  edge-value =
      let E = 2 ^ suc (prec f) - 1 in
      let o : 2 ^ spare f * 2 ^ prec f ≡ 2 ^ emax f * (2 * 2 ^ low f) =
      mul_comm (2 ^ spare f) (2 ^ prec f) ∙ spare-is f ∙ pow-add 2 (low f) (suc (emax f)) ∙ ap (λ (z : ℕ). 2 ^ low f * z) (pow-succ' 2 (emax f))
      ∙ (omega arith) in
      omega arith
      ∙ ap (λ (z : ℕ). E * z) (sym o)
      ∙ sym (mul_assoc E (2 ^ spare f) (2 ^ prec f))
      ∙ ap (λ (z : ℕ). z * 2 ^ prec f) (double-less (2 ^ prec f) (2 ^ suc (prec f)) (overflow f) (pow-succ' 2 (prec f)) (pow_pos (prec f)) (2 ^ spare f)
      (spare-is f))

  top_lt : top < overflow f
  top_lt = subst (λ (z : ℕ). top < z) (spare-is f) (mul-lt-mul_of_pos_right (under (prec f) (two f)) (pow_pos (spare f)))

  inf-is : (s : Bool) → num f (inf s) * 2 ^ low f ≡ overflow f * den (inf s)
  inf-is s = inf-value f s ∙ ap (λ (z : ℕ). z * den (inf s)) (spare-is f)

  module _ (s : Bool) (ρ : Real) (law : Lawful ρ) (cut : Cut ρ) where
    mid_at : (v w : Float) (R W : ℕ) → num f v * 2 ^ low f ≡ R * den v → num f w * 2 ^ low f ≡ W * den w
        → mid_num f v w * (2 * 2 ^ low f) ≡ (R + W) * mid_den v w
    mid_at v w R W x y = middle (num f v) (den v) (num f w) (den w) (2 ^ low f) R W x y

    pub overflows-back : Nearest f ρ s (inf s) → ρ.at_least (edge_num f) (edge_den f)
    overflows-back n =
        let w = odd (suc (prec f)) s (2 ^ prec f - 1) (spare f) (low f) in
        let v = odd_sign (suc (prec f)) s (2 ^ prec f - 1) (spare f) (low f) in
        let wv : num f w * 2 ^ low f ≡ top * den w = counted f s w top (2 ^ low f) v in
        let held : T (fits f w) = odd-fits f (suc (prec f)) s (2 ^ prec f - 1) (spare f)
        (lt_of_lt_of_le (under (prec f) (two f)) (pow_mono (le_step (le_refl (prec f))))) (le_of_lt (under (prec f) (two f))) top_lt in
        let lt : Smaller f w (inf s) = back-order (num f w) (den w) (num f (inf s)) (den (inf s)) (2 ^ low f) top (overflow f) (den_pos w) (den_pos (inf s)) wv
        (inf-is s) top_lt in
        law.lower (edge_num f) (edge_den f) (mid_num f (inf s) w) (mid_den (inf s) w) (pow_pos (prec f)) (mid-pos (inf s) w)
        (le_of_eq (eq_of_mul-eq-mul_right (2 * 2 ^ low f) (half_pos f) (edge_num f * mid_den (inf s) w) (mid_num f (inf s) w * edge_den f)
        (join (edge_num f) (mid_den (inf s) w) (2 * 2 ^ low f) (mid_num f (inf s) w) (edge_den f) (top + overflow f) edge-value
        (mid_at (inf s) w (overflow f) top (inf-is s) wv ∙ ap (λ (z : ℕ). z * mid_den (inf s) w) (add_comm (overflow f) top)))))
        (n.from_below w held (signed s w top (2 ^ low f) v) lt)

    -- a finite value that is nearest to a number from the edge on would be the largest, and even
    no-finite : (r : Float) → Nearest f ρ s r → Smaller f r (inf s) → ρ.at_least (edge_num f) (edge_den f) → ⊥
    no-finite r n lt h =
        let o = on-grid f s r n.held n.sign in
        let R = o.n * 2 ^ o.j in
        let most = n.from_above (inf s) (inf-fits f s) refl lt in
        let c = cut (mid_num f r (inf s)) (mid_den r (inf s)) (edge_num f) (edge_den f) (mid-pos r (inf s)) (pow_pos (prec f)) h most in
        let m = mid_at r (inf s) R (overflow f) o.value (inf-is s) in
        let R-lt : R < overflow f = order (num f r) (den r) (num f (inf s)) (den (inf s)) (2 ^ low f) R (overflow f) (pow_pos (low f)) o.value (inf-is s)
        lt in
        let R-ge : top ≤ R = le_of_not_lt R top (λ (g : R < top). not-le_of_lt
        (back-order (mid_num f r (inf s)) (mid_den r (inf s)) (edge_num f) (edge_den f) (2 * 2 ^ low f) (R + overflow f) (top + overflow f) (mid-pos r (inf s))
        (pow_pos (prec f)) m edge-value (omega arith)) c) in
        let R-is : top ≡ R = elim (eq-or-lt_of_le R-ge) [
          | inl e ↦ e
          | inr g ↦ absurd (not-le_of_lt R-lt (le_trans (le_of_eq (sym (one-off (2 ^ prec f) (2 ^ spare f) (pow_pos (prec f)) ∙ spare-is f)))
              (next_up (prec f) (2 ^ prec f - 1) (spare f) o.n o.j (two-le_pos (prec f) (two f)) (inr (lead-last (prec f) (two f))) o.digits g)))
        ] in
        let tie = law.lower (mid_num f r (inf s)) (mid_den r (inf s)) (edge_num f) (edge_den f) (mid-pos r (inf s)) (pow_pos (prec f))
        (le_of_eq (eq_of_mul-eq-mul_right (2 * 2 ^ low f) (half_pos f) (mid_num f r (inf s) * edge_den f) (edge_num f * mid_den r (inf s))
        (join (mid_num f r (inf s)) (edge_den f) (2 * 2 ^ low f) (edge_num f) (mid_den r (inf s)) (R + overflow f) m
        (edge-value ∙ ap (λ (z : ℕ). (z + overflow f) * edge_den f) R-is)))) h in
        let e : Even f r = n.tie_above (inf s) (inf-fits f s) refl lt tie in
        not-next (prec f) (2 * (2 ^ (prec f - 1) - 1)) (spare f) e.c e.k (2 ^ (prec f - 1) - 1) e.half (two f) (small (prec f) (two f)) e.digits
        (inr (lead (prec f) (two f))) refl e.even
        (ap (λ (z : ℕ). z * 2 ^ spare f) (last (prec f) (two f)) ∙ R-is
        ∙ eq_of_mul-eq-mul_right (den r) (den_pos r) R (e.c * 2 ^ e.k) (sym o.value ∙ e.value))
      where
        le_of_not_lt : (a b : ℕ) → (a < b → ⊥) → b ≤ a
        le_of_not_lt a b h = elim (or_lt a b) [ inl l ↦ l | inr g ↦ absurd (h g) ]

    pub overflows : (r : Float) → Nearest f ρ s r → ρ.at_least (edge_num f) (edge_den f) → r ≡ inf s
    overflows nan n h = absurd n.sign
    overflows (inf t) n h = ap inf n.sign
    overflows (fin t m e) n h = absurd (no-finite (fin t m e) n (omega (arith, fits_below f t m e n.held)) h)

-- what is nearest to a fraction is an infinity exactly where the fraction is 2 ^ emax * (2 - 2 ^ -prec) or more
pub nearest-overflows : (f : Format) (s : Bool) (a b : ℕ) (r : Float) → 0 < b → Nearest f (fraction a b) s r
    → (edge_num f * b ≤ a * edge_den f → r ≡ inf s) × (r ≡ inf s → edge_num f * b ≤ a * edge_den f)
nearest-overflows f s a b r B n = (
  overflows f s (fraction a b) (fraction-lawful a b) (fraction-cut a b B) r n,
  λ e. overflows-back f s (fraction a b) (fraction-lawful a b) (fraction-cut a b B) (subst (λ (z : Float). Nearest f (fraction a b) s z) e n),
)
