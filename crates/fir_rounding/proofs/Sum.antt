-- How far a FIR's sum is off the exact one, over any format: taps of magnitude at most 1, samples of magnitude at most 2 ^ s, and at most 2 ^ m of them. Each
-- product is at most 2 ^ s, and after i of them the sum is at most i * 2 ^ s, which is a value of the format. So each of the 2 ^ m products is off by at most
-- 2 ^ (s - prec - 1). The first addition, to +0, loses nothing, and each of the other 2 ^ m - 1 is off by at most 2 ^ (m + s - prec - 1): together
-- 2 ^ (m + m + s - prec - 1).
use mathlib.Core.Path.{◌≡◌, refl, sym, ap, ◌∙◌, subst}
use mathlib.Core.Bool.{true, false}
use mathlib.Core.List.{List, [], ◌∷◌}
use Prim.Native.Nat.{ℕ, suc, ◌+◌, ◌*◌, ◌^◌, ◌≤◌, ◌<◌, zero-le}
use native.Mathlib.Nat.{le_trans, le_of_eq, lt_of_le_of_lt, mul-one, one-mul, mul_assoc, mul_comm, mul-le-mul, mul-le-mul_right, le_of_mul-le-mul_right}
use native.Mathlib.Omega.{arith}
use lib.Pow.{pow-add, pow_pos, pow-lt}
use lib.IntN.{ℤ, pos, nat_abs, ◌+ℤ◌, ◌*ℤ◌, +ℤ_comm, +ℤ_idl, +ℤ_idr, +ℤ_assoc, zero-*ℤ}
use lib.ListN.{length}
use lib.Ieee.{Float, Format, prec, emax, low, add, mul, fits, of_bits}
use lib.Ieee.Scale.{finite}
use Rattle.ieee.proofs.Grid.{overflow}
use Rattle.limits.specs.Zero.{plus_zero}
use Rattle.lists.specs.Lists.{Each}
use Rattle.exact.specs.Scaled.{scale, scaled, distance}
use Rattle.exact.proofs.Whole.{times-one, times-add, abs-add, abs-mul}
use Rattle.exact.proofs.Distance.{OffBy, off_self, off-through, off-add, off-times}
use Rattle.exact.proofs.Values.{FiniteValue, digits, scaled-zero}
use Rattle.exact.proofs.Rounding.{Near}
use Rattle.exact.proofs.Operations.{add-near, mul-near}
use Rattle.fir_theory.specs.Fir.{sum}
use Rattle.fir_rounding.specs.Figure.{exact_sum, DiffersAtMost}

-- a finite value of the format whose magnitude, scaled, is at most n
pub record AtMost (f : Format) (n : ℕ) (x : Float) : Type 0 where
  pub value : FiniteValue f x
  pub most : nat_abs (scaled f x) ≤ n

module _ (f : Format) (m s : ℕ) (M : m < prec f) (S : m + s ≤ emax f) where
  -- 2 ^ s, scaled
  abbrev top : ℕ
  top = 2 ^ (s + low f)

  top-is : top ≡ 2 ^ s * scale f
  top-is = pow-add 2 s (low f)

  -- i * 2 ^ s is a value of the format
  few-digits : (i : ℕ) → i ≤ 2 ^ m → i < 2 ^ prec f
  few-digits i h = lt_of_le_of_lt h (pow-lt M)

  below-overflow : (i : ℕ) → i ≤ 2 ^ m → i * top < overflow f
  below-overflow i h =
      lt_of_le_of_lt (mul-le-mul_right top h) (lt_of_le_of_lt (le_of_eq (sym (pow-add 2 m (s + low f)))) (pow-lt (room m s (low f) (emax f) S)))
    where
      room : (m s l e : ℕ) → m + s ≤ e → m + (s + l) < l + suc e
      room m s l e h = omega arith

  -- a number that the sum has come to after i products
  abbrev Reached : ℕ → Float → Type 0
  Reached i y = AtMost f (i * top) y

  -- ---- one product
  module _ (t x : Float) (p : AtMost f (scale f) t) (q : AtMost f (2 ^ s * scale f) x) where
    small : nat_abs (scaled f t *ℤ scaled f x) ≤ 2 ^ s * scale f * scale f
    small =
        le_trans (le_of_eq (abs-mul (scaled f t) (scaled f x))) (le_trans (mul-le-mul p.most q.most) (le_of_eq (mul_comm (scale f) (2 ^ s * scale f))))

    product : Near f s (scale f) (scaled f t *ℤ scaled f x) (mul f t x)
    product = mul-near f s (less m s (emax f) S) t x p.value q.value small
      where
        less : (m s e : ℕ) → m + s ≤ e → s ≤ e
        less m s e h = omega arith

    one_product : Reached 1 (mul f t x)
    one_product = record {
      value = product.value;
      most = product.within 1 (s + low f) (few-digits 1 (pow_pos m)) (below-overflow 1 (pow_pos m))
          (le_trans small (le_of_eq (ap (λ (z : ℕ). z * scale f) (sym top-is ∙ sym (one-mul top)))));
    }

  -- ---- one product more, added
  module _ (i : ℕ) (y p : Float) (h : suc i ≤ 2 ^ m) (Y : Reached i y) (P : Reached 1 p) where
    sum-most : nat_abs (scaled f y +ℤ scaled f p) ≤ suc i * top
    sum-most = omega (arith, abs-add (scaled f y) (scaled f p), Y.most, P.most)

    added : Near f (m + s) 1 (scaled f y +ℤ scaled f p) (add f y p)
    added = add-near f (m + s) S y p Y.value P.value (le_trans sum-most (le_trans (mul-le-mul_right top h) (le_of_eq whole)))
      where
        whole : 2 ^ m * top ≡ 2 ^ (m + s) * scale f
        whole = ap (λ (z : ℕ). 2 ^ m * z) top-is ∙ sym (mul_assoc (2 ^ m) (2 ^ s) (scale f)) ∙ ap (λ (z : ℕ). z * scale f) (sym (pow-add 2 m s))

    one_more : Reached (suc i) (add f y p)
    one_more = record {
      value = added.value;
      most = added.within (suc i) (s + low f) (few-digits (suc i) h) (below-overflow (suc i) h) (le_trans sum-most (le_of_eq (sym (mul-one (suc i * top)))));
    }

  -- ---- the errors, scaled twice and times 2 ^ (prec + 1)
  abbrev K : ℕ
  K = 2 ^ suc (prec f)

  abbrev of_product : ℕ
  of_product = 2 ^ s * scale f * scale f

  abbrev of_sum : ℕ
  of_sum = 2 ^ (m + s) * scale f * scale f

  -- y, scaled twice
  abbrev twice : Float → ℤ
  twice y = scaled f y *ℤ pos (scale f)

  step-error : (i : ℕ) (y t x : Float) → suc i ≤ 2 ^ m → Reached i y → AtMost f (scale f) t → AtMost f (2 ^ s * scale f) x
      → OffBy K (twice (add f y (mul f t x))) (twice y +ℤ scaled f t *ℤ scaled f x) (of_sum + of_product)
  step-error i y t x h Y p q =
      let P = mul f t x in
      let a = scaled f (add f y P) in
      let b = scaled f y in
      let c = scaled f P in
      let E = scaled f t *ℤ scaled f x in
      let sums : OffBy K (a *ℤ pos (scale f)) ((b +ℤ c) *ℤ pos (scale f)) of_sum =
      off-times K a (b +ℤ c) (scale f) (rw (times-one a, mul-one (2 ^ (m + s) * scale f)) at (added i y P h Y (one_product t x p q)).error) in
      let products : OffBy K (twice y +ℤ c *ℤ pos (scale f)) (twice y +ℤ E) of_product =
      rw (+ℤ_comm (twice y) (c *ℤ pos (scale f)), +ℤ_comm (twice y) E) (off-add K (c *ℤ pos (scale f)) E (twice y) (product t x p q).error) in
      off-through K (twice (add f y P)) (twice y +ℤ c *ℤ pos (scale f)) (twice y +ℤ E) (rw (times-add b c (scale f)) at sums) products

  -- a sum y of the code, off the exact one by at most e
  pub record Summed (y : Float) (E : ℤ) (e : ℕ) : Type 0 where
    pub is_finite : finite y ≡ true
    pub error : OffBy K (twice y) E e

  nothing : (y : Float) (e : ℕ) → finite y ≡ true → Summed y (twice y +ℤ pos 0) e
  nothing y e Y = record { is_finite = Y; error = rw (+ℤ_idr (twice y)) (le_trans (off_self K (twice y)) zero-le) }

  -- a step from E to what z is, and the rest of the sum from z
  before : (y z : Float) (E R : ℤ) {a b : ℕ} → OffBy K (twice z) E b → Summed y (twice z +ℤ R) a → Summed y (E +ℤ R) (a + b)
  before y z E R h g = record { is_finite = g.is_finite; error = off-through K (twice y) (twice z +ℤ R) (E +ℤ R) g.error (off-add K (twice z) E R h) }

  sum-error : (ts xs : List Float) (i : ℕ) (y : Float) → i + length xs ≤ 2 ^ m → Reached i y → Each (AtMost f (scale f)) ts
      → Each (AtMost f (2 ^ s * scale f)) xs → Summed (sum f y ts xs) (twice y +ℤ exact_sum f ts xs) (length xs * (of_sum + of_product))
  unfolding sum exact_sum
  sum-error [] xs i y h Y T X = nothing y (length xs * (of_sum + of_product)) Y.value.is_finite
  sum-error (t ∷ ts) [] i y h Y T X = nothing y (0 * (of_sum + of_product)) Y.value.is_finite
  sum-error (t ∷ ts) (x ∷ xs) i y h Y T X =
      let P = mul f t x in
      let z = add f y P in
      let E = scaled f t *ℤ scaled f x in
      let R = exact_sum f ts xs in
      let k : suc i ≤ 2 ^ m = omega arith in
      let rest = sum-error ts xs (suc i) z (omega arith) (one_more i y P k Y (one_product t x T.0 X.0)) T.1 X.1 in
      subst (λ (e : ℕ). Summed (sum f z ts xs) (twice y +ℤ (E +ℤ R)) e) (one (length xs) (of_sum + of_product))
      (subst (λ (v : ℤ). Summed (sum f z ts xs) v (length xs * (of_sum + of_product) + (of_sum + of_product))) (+ℤ_assoc (twice y) E R)
      (before (sum f z ts xs) z (twice y +ℤ E) R (step-error i y t x k Y T.0 X.0) rest))
    where
      one : (n e : ℕ) → n * e + e ≡ suc n * e
      one n e = omega arith

  -- ---- the first product is added to +0, which loses nothing
  scaled-plus_zero : scaled f plus_zero ≡ pos 0
  unfolding of_bits
  scaled-plus_zero = scaled-zero f false

  zero-finite : FiniteValue f plus_zero
  unfolding fits of_bits
  zero-finite = record { is_value = tt; is_finite = refl }

  zero-reached : Reached 0 plus_zero
  zero-reached = record { value = zero-finite; most = rw scaled-plus_zero zero-le }

  first-same : (p : Float) → Reached 1 p → scaled f (add f plus_zero p) ≡ scaled f p
  first-same p P =
      let d = digits f p P.value in
      let n = d.q * 2 ^ d.i in
      let z : scaled f plus_zero +ℤ scaled f p ≡ scaled f p = ap (λ (u : ℤ). u +ℤ scaled f p) scaled-plus_zero ∙ +ℤ_idl (scaled f p) in
      let e : nat_abs (scaled f plus_zero +ℤ scaled f p) ≡ n * 1 = ap nat_abs z ∙ d.value ∙ sym (mul-one n) in
      let o : n < overflow f = lt_of_le_of_lt (le_trans (le_of_eq (sym d.value)) P.most) (below-overflow 1 (pow_pos m)) in
      sym (times-one (scaled f (add f plus_zero p))) ∙ (added 0 plus_zero p (pow_pos m) zero-reached P).exact d.q d.i d.few o e ∙ z

  -- ---- the whole sum
  abbrev all_errors : ℕ
  all_errors = 2 ^ (m + m + s) * (scale f * scale f)

  none_yet : Summed plus_zero (pos 0) all_errors
  none_yet = subst (λ (E : ℤ). Summed plus_zero E all_errors) zeros (nothing plus_zero all_errors zero-finite.is_finite)
    where
      zeros : twice plus_zero +ℤ pos 0 ≡ pos 0
      zeros = +ℤ_idr (twice plus_zero) ∙ ap (λ (u : ℤ). u *ℤ pos (scale f)) scaled-plus_zero ∙ zero-*ℤ (pos (scale f))

  -- n additions, and n products and one more
  all_of : (n : ℕ) → suc n ≤ 2 ^ m → n * (of_sum + of_product) + of_product ≤ all_errors
  all_of n h = rw (pow-add 2 m s, pow-add 2 (m + m) s, pow-add 2 m m) (go (2 ^ m) (2 ^ s) (scale f) h)
    where
      go : (Q A L : ℕ) → suc n ≤ Q → n * (Q * A * L * L + A * L * L) + A * L * L ≤ Q * Q * A * (L * L)
      go Q A L h = omega (arith, mul-le-mul_right (A * L * L) h, mul-le-mul_right (Q * A * L * L) h)

  pub total-error : (ts xs : List Float) → length xs ≤ 2 ^ m → Each (AtMost f (scale f)) ts → Each (AtMost f (2 ^ s * scale f)) xs
      → Summed (sum f plus_zero ts xs) (exact_sum f ts xs) all_errors
  unfolding sum exact_sum
  total-error [] xs h T X = none_yet
  total-error (t ∷ ts) [] h T X = none_yet
  total-error (t ∷ ts) (x ∷ xs) h T X =
      let P = mul f t x in
      let z = add f plus_zero P in
      let E = scaled f t *ℤ scaled f x in
      let p = one_product t x T.0 X.0 in
      let rest = sum-error ts xs 1 z (omega arith) (one_more 0 plus_zero P (pow_pos m) zero-reached p) T.1 X.1 in
      let first : OffBy K (twice z) E of_product = rw (first-same P p) (product t x T.0 X.0).error in
      let whole = before (sum f z ts xs) z E (exact_sum f ts xs) first rest in
      record { is_finite = whole.is_finite; error = le_trans whole.error (all_of (length xs) h) }

  -- in the words of the figure
  pub total-differs : (b : ℕ) (y : Float) (E : ℤ) → b + (m + m + s) ≡ suc (prec f) → Summed y E all_errors → DiffersAtMost f b y E
  total-differs b y E e h =
      let Q = 2 ^ (m + m + s) in
      let d = distance (twice y) E in
      let k : d * 2 ^ b * Q ≡ d * K = mul_assoc d (2 ^ b) Q ∙ ap (λ (z : ℕ). d * z) (sym (pow-add 2 b (m + m + s)) ∙ ap (λ (z : ℕ). 2 ^ z) e) in
      le_of_mul-le-mul_right (le_trans (le_of_eq k) (le_trans h.error (le_of_eq (mul_comm Q (scale f * scale f))))) (pow_pos (m + m + s))
