-- A finite float above zero as m * 2 ^ e with 1 ≤ m < 2.
use Rattle.std.proofs.Common.{◌≡◌, ℕ, zero, suc, ◌+◌, ◌-◌, ◌*◌, ◌/◌, ◌%◌, ◌^◌, ◌<◌, ◌≤◌, true, false, ◌&&◌, T, eqb, ltb, leb, ℤ, pos, negsuc, ◌+ℤ◌, sym, refl}
use Rattle.std.proofs.Common.{ap, ◌∙◌, subst, inl, inr, true≢false, le_trans, le_of_eq, lt_of_lt_of_le, lt_of_le_of_lt, le_of_lt, lt_irrefl}
use Rattle.std.proofs.Common.{mul-le-mul_right, mod-lt, mod-eq_of_lt, zero-lt-suc, mul_assoc, add_comm, le_antisymm, mul-le-mul_left, mul-lt-mul_of_pos_right}
use Rattle.std.proofs.Common.{mul-pos, one-mul, lt_of_not-le, zero-mul, mul-one, mul_right_comm, not-le_of_lt, arith, lit≤, le→leb, ltb→lt, lt→ltb, pow_pos}
use Rattle.std.proofs.Common.{pow_mono, pow-add, shl_lt}
use mathlib.Core.Path.{subst⁻¹}
use native.Mathlib.Nat.{eq_of_mul-eq-mul_right, pow-succ'}
use lib.Ieee.{Float, nan, inf, fin, binary64, up, down, size, odd, minus, fits, to_bits}
use lib.Ieee.Fits.{and_l, and_r, and_i, down_pos, odd-fits}
use lib.Ieee.Exact.{HasValue, odd_sign}
use lib.Ieee.Digits.{minus_val, size-lt, size-le, size_reaches}
use lib.Ieee.Positive.{positive}
use lib.Ieee.Bits.{of_bits-to_bits}
use Rattle.ieee.proofs.Grid.{rescale, fits-digits, or_lt}
use Rattle.ieee.proofs.Patterns.{normal, subnormal, Above, beyond}
use Rattle.logarithm.specs.Logarithm.{parts_of, Splits}
use Rattle.logarithm.specs.declared.Parts.{Parts}
use Rattle.scalar.proofs.Values.{unique, minus-same, minus_pos, minus-zero, sum_is}

-- ---- how many digits
size_is : (x n : ℕ) → 2 ^ n ≤ x → x < 2 ^ suc n → size x ≡ suc n
size_is x n l h =
    le_antisymm (size-le x (suc n) h)
    (lt_of_not-le (λ (k : size x ≤ n). lt_irrefl x (lt_of_lt_of_le (size-lt x) (le_trans (pow_mono k) l))))

size-pos : (x : ℕ) → 0 < x → suc (size x - 1) ≡ size x
size-pos x h = go (size x) (size-lt x)
  where
    go : (n : ℕ) → x < 2 ^ n → suc (n - 1) ≡ n
    go zero l = absurd (not-le_of_lt l h)
    go (suc n) l = omega arith

size-least : (x : ℕ) → 0 < x → 2 ^ (size x - 1) ≤ x
size-least x h = size_reaches x (size x - 1) (le_of_eq (size-pos x h))

size-most : (x : ℕ) → 0 < x → x < 2 ^ suc (size x - 1)
size-most x h = subst⁻¹ (λ (k : ℕ). x < 2 ^ k) (size-pos x h) (size-lt x)

size-shift : (x u : ℕ) → 0 < x → size (x * 2 ^ u) ≡ size x + u
size-shift x u h =
    let n = size x - 1 in
    let e : suc n ≡ size x = size-pos x h in
    size_is (x * 2 ^ u) (n + u)
    (le_trans (le_of_eq (pow-add 2 n u)) (mul-le-mul_right (2 ^ u) (size-least x h)))
    (lt_of_lt_of_le (mul-lt-mul_of_pos_right (size-most x h) (pow_pos u)) (le_of_eq (sym (pow-add 2 (suc n) u) ∙ ap (λ (k : ℕ). 2 ^ k) (omega arith))))
    ∙ (let z : suc (n + u) ≡ size x + u = omega arith in z)

-- M * 2 ^ u = q * 2 ^ v, with q of 53 digits: how many digits M has
digits : (M u q v : ℕ) → 0 < M → 2 ^ 52 ≤ q → q < 2 ^ 53 → M * 2 ^ u ≡ q * 2 ^ v → (size M - 1) + u ≡ 52 + v
digits M u q v P l h e =
    let a : size M + u ≡ size q + v = sym (size-shift M u P) ∙ ap size e ∙ size-shift q v (lt_of_lt_of_le (pow_pos 52) l) in
    let b : size q ≡ 53 = size_is q 52 l h in
    let c : suc (size M - 1) ≡ size M = size-pos M P in
    omega arith

-- and so M / 2 ^ (n - 1) is q / 2 ^ 52
same-value : (M u q v : ℕ) → 0 < M → 2 ^ 52 ≤ q → q < 2 ^ 53 → M * 2 ^ u ≡ q * 2 ^ v → M * 2 ^ 52 ≡ q * 2 ^ (size M - 1)
same-value M u q v P l h e =
    let s = size M - 1 in
    let d : s + u ≡ 52 + v = digits M u q v P l h e in
    eq_of_mul-eq-mul_right (2 ^ v) (pow_pos v) (M * 2 ^ 52) (q * 2 ^ s)
    (mul_assoc M (2 ^ 52) (2 ^ v)
    ∙ ap (λ (z : ℕ). M * z) (sym (pow-add 2 52 v) ∙ ap (λ (z : ℕ). 2 ^ z) (sym d ∙ add_comm s u) ∙ pow-add 2 u s)
    ∙ sym (mul_assoc M (2 ^ u) (2 ^ s))
    ∙ ap (λ (z : ℕ). z * 2 ^ s) e
    ∙ mul_right_comm q (2 ^ v) (2 ^ s))

-- ---- M / 2 ^ s is a value of the format where M * 2 ^ E is
up-down : (s : ℕ) → (up (minus 0 s) ≡ 1) × (down (minus 0 s) ≡ 2 ^ s)
up-down zero = (refl, refl)
up-down (suc s) = (ap up (minus-zero s), ap down (minus-zero s))

significand-fits : (M : ℕ) (E : ℤ) (s : ℕ) → 0 < M → s ≤ 1074 → T (fits binary64 (fin false M E)) → T (fits binary64 (fin false M (minus 0 s)))
unfolding fits
significand-fits zero E s P k f = absurd (lt_irrefl 0 P)
significand-fits (suc m) E s P k f =
    let A = eqb (suc m % 2) 1 in
    let B = ltb (suc m) (2 ^ 53) in
    let C = leb (down E) (2 ^ 1074) in
    let D = ltb (suc m * up E) (2 ^ 1024 * down E) in
    let ab : T (A && B) = and_l (A && B) C (and_l (A && B && C) D f) in
    let b : suc m < 2 ^ 53 = ltb→lt (suc m) (2 ^ 53) (and_r A B ab) in
    let C' = leb (down (minus 0 s)) (2 ^ 1074) in
    let D' = ltb (suc m * up (minus 0 s)) (2 ^ 1024 * down (minus 0 s)) in
    and_i (A && B && C') D' (and_i (A && B) C' ab (le→leb (down (minus 0 s)) (2 ^ 1074) (le_trans (le_of_eq (up-down s).1) (pow_mono k))))
    (lt→ltb (suc m * up (minus 0 s)) (2 ^ 1024 * down (minus 0 s))
    (lt_of_le_of_lt (le_of_eq (ap (λ (z : ℕ). suc m * z) (up-down s).0 ∙ mul-one (suc m)))
    (lt_of_lt_of_le b (le_trans (lit≤ {m = 2 ^ 53} {n = 2 ^ 1024} tt)
    (le_trans (le_of_eq (sym (mul-one (2 ^ 1024)))) (mul-le-mul_left (2 ^ 1024) (down_pos (minus 0 s))))))))

-- ---- the parts of a value above zero that is q * 2 ^ a / 2 ^ l, q having 53 digits
record Cross (M : ℕ) (E : ℤ) (q a l : ℕ) : Type 0 where
  u : ℕ
  v : ℕ
  same : M * 2 ^ u ≡ q * 2 ^ v
  place : (s : ℕ) → s + u ≡ 52 + v → E +ℤ pos s ≡ minus (a + 52) l

crossed : (M : ℕ) (E : ℤ) (q a l : ℕ) → M * up E * 2 ^ l ≡ q * 2 ^ a * down E → Cross M E q a l
crossed M (pos k) q a l e = record {
  u = k + l;
  v = a;
  same = ap (λ (z : ℕ). M * z) (pow-add 2 k l) ∙ sym (mul_assoc M (2 ^ k) (2 ^ l)) ∙ e ∙ mul-one (q * 2 ^ a);
  place = λ s h. sym (minus-same (a + 52) l (k + s + l) l (omega arith) ∙ minus_pos (k + s) l);
}
crossed M (negsuc k) q a l e = record {
  u = l;
  v = a + suc k;
  same = ap (λ (z : ℕ). z * 2 ^ l) (sym (mul-one M)) ∙ e ∙ mul_assoc q (2 ^ a) (2 ^ suc k) ∙ ap (λ (z : ℕ). q * z) (sym (pow-add 2 a (suc k)));
  place = λ s h. sum_is s k ∙ minus-same s (suc k) (a + 52) l (omega arith);
}

pub pair : {a b : Float} {x y : ℤ} → a ≡ b → x ≡ y → ◌≡◌ {A = Parts} (record { m = a; e = x }) (record { m = b; e = y })
pair p q = λ i. record { m = p i; e = q i }

parts_from : (x : Float) (q a l : ℕ) → T (fits binary64 x) → HasValue x false (q * 2 ^ a) (2 ^ l) → 2 ^ 52 ≤ q → q < 2 ^ 53
    → parts_of x ≡ record { m = odd 53 false q 1022 1074; e = minus (a + 52) l }
unfolding parts_of
parts_from nan q a l f v lo hi = absurd v
parts_from (inf s) q a l f v lo hi = absurd v
parts_from (fin true M E) q a l f v lo hi = absurd (true≢false v.0)
parts_from (fin false zero E) q a l f v lo hi =
    absurd (lt_irrefl 0 (lt_of_lt_of_le (mul-pos (mul-pos (lt_of_lt_of_le (pow_pos 52) lo) (pow_pos a)) (down_pos E))
    (le_of_eq (sym v.1 ∙ ap (λ (z : ℕ). z * 2 ^ l) (zero-mul (up E)) ∙ zero-mul (2 ^ l)))))
parts_from (fin false (suc M) E) q a l f v lo hi =
    let c = crossed (suc M) E q a l v.1 in
    let P : 0 < suc M = zero-lt-suc M in
    let s = size (suc M) - 1 in
    let few : size (suc M) ≤ 53 = size-le (suc M) 53 (fits-digits binary64 false (suc M) E f) in
    let sv = same-value (suc M) c.u q c.v P lo hi c.same in
    let H : q * 2 ^ 1022 * 2 ^ s ≡ suc M * 1 * 2 ^ 1074
    = mul_right_comm q (2 ^ 1022) (2 ^ s) ∙ ap (λ (z : ℕ). z * 2 ^ 1022) (sym sv) ∙ mul_assoc (suc M) (2 ^ 52) (2 ^ 1022)
    ∙ ap (λ (z : ℕ). z * 2 ^ 1074) (sym (mul-one (suc M))) in
    pair
    (unique (fin false (suc M) (minus 0 s)) (odd 53 false q 1022 1074) false (q * 2 ^ 1022) (2 ^ 1074) (pow_pos 1074)
    (significand-fits (suc M) E s P (omega arith) f)
    (odd-fits binary64 53 false q 1022 hi (le_of_lt hi) (lt_of_lt_of_le (shl_lt 53 1022 hi) (lit≤ tt)))
    (rescale (fin false (suc M) (minus 0 s)) false (suc M * 1) (2 ^ s) (q * 2 ^ 1022) (2 ^ 1074) (pow_pos s) H (refl, minus_val (suc M) 0 s))
    (odd_sign 53 false q 1022 1074))
    (c.place s (digits (suc M) c.u q c.v P lo hi c.same))

-- ---- from the bit pattern W of x
above : (x : Float) → T (positive x) → Above x
above nan p = absurd p
above (inf s) p = absurd p
above (fin true m e) p = absurd p
above (fin false m e) p = tt

pub bits_below : (x : Float) → T (fits binary64 x) → T (positive x) → to_bits binary64 x < 2047 * 2 ^ 52
bits_below x f p = elim (or_lt (to_bits binary64 x) (2047 * 2 ^ 52)) [
  | inl h ↦ absurd (beyond (to_bits binary64 x) h (subst⁻¹ Above (of_bits-to_bits binary64 x f) (above x p)))
  | inr h ↦ h
]

pub field_below : (x : Float) → T (fits binary64 x) → T (positive x) → to_bits binary64 x / 2 ^ 52 < 2047
field_below x f p = let h = bits_below x f p in omega arith

-- a subnormal: the exponent's field is 0, and the digits are the whole pattern
low-is : (x : Float) → T (fits binary64 x) → to_bits binary64 x / 2 ^ 52 ≡ 0 → x ≡ odd 53 false (to_bits binary64 x % 2 ^ 52) 0 1074
low-is x f z =
    let W = to_bits binary64 x in
    let l : W < 2 ^ 52 = omega arith in
    sym (of_bits-to_bits binary64 x f) ∙ subnormal W l ∙ ap (λ (t : ℕ). odd 53 false t 0 1074) (sym (mod-eq_of_lt l))

pub low-pos : (x : Float) → T (fits binary64 x) → T (positive x) → to_bits binary64 x / 2 ^ 52 ≡ 0 → 0 < to_bits binary64 x % 2 ^ 52
low-pos x f p z = go (to_bits binary64 x % 2 ^ 52) (subst (λ (y : Float). T (positive y)) (low-is x f z) p)
  where
    go : (t : ℕ) → T (positive (odd 53 false t 0 1074)) → 0 < t
    go zero h = unfold odd in absurd h
    go (suc t) h = zero-lt-suc t

pub parts_low : (x : Float) (q j : ℕ) → T (fits binary64 x) → to_bits binary64 x / 2 ^ 52 ≡ 0 → q ≡ to_bits binary64 x % 2 ^ 52 * 2 ^ j → 2 ^ 52 ≤ q
    → q < 2 ^ 53
    → parts_of x ≡ record { m = odd 53 false q 1022 1074; e = minus 0 (1022 + j) }
parts_low x q j f z e lo hi =
    let t = to_bits binary64 x % 2 ^ 52 in
    let v : HasValue x false (t * 1) (2 ^ 1074) = subst⁻¹ (λ (y : Float). HasValue y false (t * 1) (2 ^ 1074)) (low-is x f z) (odd_sign 53 false t 0 1074) in
    let H : q * 1 * 2 ^ 1074 ≡ t * 1 * 2 ^ (1074 + j)
    = ap (λ (k : ℕ). k * 2 ^ 1074) (mul-one q ∙ e) ∙ mul_assoc t (2 ^ j) (2 ^ 1074)
    ∙ ap (λ (k : ℕ). t * k) (sym (pow-add 2 j 1074) ∙ ap (λ (k : ℕ). 2 ^ k) (add_comm j 1074)) ∙ ap (λ (k : ℕ). k * 2 ^ (1074 + j)) (sym (mul-one t)) in
    parts_from x q 0 (1074 + j) f (rescale x false (t * 1) (2 ^ 1074) (q * 1) (2 ^ (1074 + j)) (pow_pos 1074) H v) lo hi
    ∙ pair refl (minus-same 52 (1074 + j) 0 (1022 + j) (omega arith))

pub parts-high : (x : Float) → T (fits binary64 x) → T (positive x) → (to_bits binary64 x / 2 ^ 52 ≡ 0 → ⊥)
    → parts_of x ≡ record { m = odd 53 false (2 ^ 52 + to_bits binary64 x % 2 ^ 52) 1022 1074; e = minus (to_bits binary64 x / 2 ^ 52) 1023 }
parts-high x f p z =
    let W = to_bits binary64 x in
    let t = W % 2 ^ 52 in
    let k = W / 2 ^ 52 - 1 in
    let s : t < 2 ^ 52 = mod-lt W (pow_pos 52) in
    let n : x ≡ odd 53 false (2 ^ 52 + t) k 1074 = sym (of_bits-to_bits binary64 x f) ∙ normal W (omega arith) (bits_below x f p) in
    parts_from x (2 ^ 52 + t) k 1074 f
    (subst⁻¹ (λ (y : Float). HasValue y false ((2 ^ 52 + t) * 2 ^ k) (2 ^ 1074)) n (odd_sign 53 false (2 ^ 52 + t) k 1074))
    (omega arith) (omega arith)
    ∙ pair refl (minus-same (k + 52) 1074 (W / 2 ^ 52) 1023 (omega arith))

-- ---- a subnormal's digits t, brought up to 53: r is the place of the first of them
module _ (t r : ℕ) (first : 2 ^ r ≤ t) (last : t < 2 * 2 ^ r) (low : t < 2 ^ 52) where
  pub lift-fits : r ≤ 52
  lift-fits = elim (or_lt r 52) [ inl h ↦ absurd (not-le_of_lt low (le_trans (pow_mono h) first)) | inr h ↦ le_of_lt h ]

  all : 2 ^ r * 2 ^ (52 - r) ≡ 2 ^ 52
  all = let e : r + (52 - r) ≡ 52 = (let h = lift-fits in omega arith) in sym (pow-add 2 r (52 - r)) ∙ ap (λ (z : ℕ). 2 ^ z) e

  pub lift-least : 2 ^ 52 ≤ t * 2 ^ (52 - r)
  lift-least = le_trans (le_of_eq (sym all)) (mul-le-mul_right (2 ^ (52 - r)) first)

  pub lift-most : t * 2 ^ (52 - r) < 2 ^ 53
  lift-most = lt_of_lt_of_le (mul-lt-mul_of_pos_right last (pow_pos (52 - r))) (le_of_eq (mul_assoc 2 (2 ^ r) (2 ^ (52 - r)) ∙ ap (λ (z : ℕ). 2 * z) all))

-- ---- the parts, said without digits
-- 2 ^ (E + s) is 2 ^ E times 2 ^ s
raised : (E : ℤ) (s : ℕ) → up (E +ℤ pos s) * down E ≡ up E * 2 ^ s * down (E +ℤ pos s)
raised (pos k) s = ap (λ (z : ℕ). z * 1) (pow-add 2 k s)
raised (negsuc k) s =
    ap (λ (z : ℤ). up z * 2 ^ suc k) (sum_is s k)
    ∙ ap (λ (z : ℕ). z * 2 ^ suc k) (sym (one-mul (up (minus s (suc k))))) ∙ minus_val 1 s (suc k)
    ∙ ap (λ (z : ℤ). 1 * 2 ^ s * down z) (sym (sum_is s k))

pub splits : (x : Float) → T (positive x) → Splits x (parts_of x)
unfolding parts_of
splits nan p = absurd p
splits (inf s) p = absurd p
splits (fin true M E) p = absurd p
splits (fin false M E) p =
    let P : 0 < M = ltb→lt 0 M p in
    let s = size M - 1 in
    let u = (up-down s).0 in
    let d = (up-down s).1 in
    let n : M * up (minus 0 s) ≡ M = ap (λ (z : ℕ). M * z) u ∙ mul-one M in
    record {
      above = p;
      least = le_trans (le_of_eq d) (le_trans (size-least M P) (le_of_eq (sym n)));
      most = lt_of_le_of_lt (le_of_eq n) (lt_of_lt_of_le (size-most M P) (le_of_eq (pow-succ' 2 s ∙ ap (λ (z : ℕ). 2 * z) (sym d))));
      value = (
        refl,
        sym
            (ap (λ (z : ℕ). z * up (E +ℤ pos s) * down E) n
            ∙ mul_assoc M (up (E +ℤ pos s)) (down E)
            ∙ ap (λ (z : ℕ). M * z) (raised E s)
            ∙ regroup M (up E) (2 ^ s) (down (E +ℤ pos s))
            ∙ ap (λ (z : ℕ). M * up E * (z * down (E +ℤ pos s))) (sym d)),
      );
    }
  where
    regroup : (M a b c : ℕ) → M * (a * b * c) ≡ M * a * (b * c)
    regroup M a b c = ap (λ (z : ℕ). M * z) (mul_assoc a b c) ∙ sym (mul_assoc M a (b * c))
