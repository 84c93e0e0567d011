-- Bounds on the magnitude of a rounded number, and with them the ranges that sin, cos and exp reduce.
use Rattle.std.proofs.Common.{◌≡◌, ℕ, zero, suc, ◌+◌, ◌-◌, ◌*◌, ◌/◌, ◌^◌, ◌<◌, ◌≤◌, Bool, true, false, cond, ◌&&◌, ◌||◌, T, eqb, ltb, ℤ, pos, neg_ℤ, sym, refl}
use Rattle.std.proofs.Common.{ap, ◌∙◌, subst, true≢false, zero-le, le_trans, le_of_eq, le_of_suc-le-suc, le_of_lt, mul-le-mul_right, mul-le-mul, mul-pos}
use Rattle.std.proofs.Common.{mul-one, mul_right_comm, le_of_mul-le-mul_right, arith, lit<, lit≤, eqb→eq, ltb→lt, pow_pos, ltb-false}
use mathlib.Core.Path.{subst⁻¹}
use native.Mathlib.Nat.{mul-mul-mul_comm}
use lib.Ieee as Ieee
use lib.Ieee.{Float, nan, inf, fin, Format, binary64, prec, emax, low, up, down, size, odd, units, round, lt, le, of_bits}
use lib.Ieee.Back.{round_whole}
use lib.Ieee.Exact.{HasValue}
use lib.Ieee.Fits.{and_l, down_pos, round_is}
use lib.Ieee.Nearest.{closest, closest_mono}
use lib.Ieee.Order.{round_mono}
use lib.Ieee.Positive.{num, den}
use Rattle.scalar.specs.Operators.{◌⊗◌, ◌⊘◌, bits}
use Rattle.scalar.specs.Constants.{ln2}
use Rattle.scalar.specs.Sign.{abs_of}
use Rattle.elementary.specs.Whole.{Within, nearest_of}
use Rattle.elementary.specs.declared.trigonometric.Angle.{Angle}
use Rattle.elementary.specs.Trigonometric.{turnable, reduced_of}
use Rattle.std.proofs.Common.{Option, Some, None, MatchOption}
use Rattle.elementary.specs.Exponential.{Scale}

-- ---- from a comparison to a bound
or-le : (a b : ℕ) (z : Bool) → T (ltb a b || (eqb a b && z)) → a ≤ b
or-le a b z t = go (ltb a b) (eqb a b) (ltb→lt a b) (eqb→eq a b) t
  where
    go : (p q : Bool) → (T p → a < b) → (T q → a ≡ b) → T (p || (q && z)) → a ≤ b
    go true q h k t = le_of_lt (h tt)
    go false q h k t = le_of_eq (k (and_l q z t))

within-of-le : (K : ℕ) (x y : Float) → T (le (abs_of x) y) → HasValue y false K 1 → Within K x
unfolding le abs_of Within
within-of-le K nan y t v = absurd t
within-of-le K (inf s) nan t v = absurd t
within-of-le K (inf s) (inf u) t v = absurd v
within-of-le K (inf s) (fin u n d) t v = absurd t
within-of-le K (fin s m e) nan t v = absurd t
within-of-le K (fin s m e) (inf u) t v = absurd v
within-of-le K (fin s m e) (fin true n d) t v = absurd (true≢false v.0)
within-of-le K (fin s m e) (fin false n d) t v =
    le_of_mul-le-mul_right
    (le_trans (or-le (m * up e * down d) (n * up d * down e) true t)
    (le_of_eq (ap (λ (z : ℕ). z * down e) (sym (mul-one (n * up d)) ∙ v.1) ∙ mul_right_comm K (down d) (down e))))
    (down_pos d)

-- ---- a rounded fraction that is at most K is at most K
odd-abs : (d : ℕ) (s : Bool) (q k l : ℕ) → abs_of (odd d s q k l) ≡ odd d false q k l
unfolding abs_of odd
odd-abs d s zero k l = refl
odd-abs d s (suc q) k l = refl

units-abs : (f : Format) (s : Bool) (q k : ℕ) → abs_of (units f s q k) ≡ units f false q k
unfolding abs_of units
units-abs f s q k = go (ltb (q * 2 ^ k) (2 ^ (low f + suc (emax f))))
  where
    go : (b : Bool) → abs_of (cond b (odd (suc (prec f)) s q k (low f)) (inf s)) ≡ cond b (odd (suc (prec f)) false q k (low f)) (inf false)
    go true = odd-abs (suc (prec f)) s q k (low f)
    go false = refl

round-abs : (s : Bool) (a b : ℕ) → abs_of (round binary64 s a b) ≡ round binary64 false a b
round-abs s a b = ap abs_of (round_is binary64 s a b) ∙ units-abs binary64 s (closest (a * 2 ^ 1074) (b * 2 ^ (size (a * 2 ^ 1074 / b) - 53))) (size
    (a * 2 ^ 1074 / b) - 53) ∙ sym (round_is binary64 false a b)

round-within : (K : ℕ) (s : Bool) (a b : ℕ) → 0 < b → K ≤ 2 ^ 53 → a ≤ K * b → Within K (round binary64 s a b)
round-within K s a b B h l =
    within-of-le K (round binary64 s a b) (round binary64 false K 1)
    (subst (λ (z : Float). T (le z (round binary64 false K 1))) (sym (round-abs s a b))
    (round_mono binary64 a b K 1 B (pow_pos 0) (le_trans (le_of_eq (mul-one a)) l)))
    (round_whole binary64 false K h)

mul-within : (K L : ℕ) (x y : Float) → Within K x → Within L y → K * L ≤ 2 ^ 53 → Within (K * L) (x ⊗ y)
mul-within K L x y p q h = go x y p q
  where
    go : (x y : Float) → Within K x → Within L y → Within (K * L) (x ⊗ y)
    go nan y p q = unfold Within in absurd p
    go (inf s) y p q = unfold Within in absurd p
    go (fin s m e) nan p q = unfold Within in absurd q
    go (fin s m e) (inf t) p q = unfold Within in absurd q
    go (fin s m e) (fin t n d) p q =
        unfold Within Ieee.mul in
        round-within (K * L) (Ieee.unlike s t) (m * up e * (n * up d)) (down e * down d) (mul-pos (down_pos e) (down_pos d)) h
        (le_trans (mul-le-mul p q) (le_of_eq (mul-mul-mul_comm K (down e) L (down d))))

within-mono : (K L : ℕ) (x : Float) → K ≤ L → Within K x → Within L x
unfolding Within
within-mono K L nan h p = p
within-mono K L (inf s) h p = p
within-mono K L (fin s m e) h p = le_trans p (mul-le-mul_right (down e) h)

-- ---- sin and cos: the angle, and the angle in quarter turns
pub turnable-is : {a : Float} {b : Bool} (x : Float) → a ≡ abs_of x → le a (bits 0x4060000000000000) ≡ b → turnable x ≡ b
unfolding turnable
turnable-is x e t = ap (λ (z : Float). le z (bits 0x4060000000000000)) (sym e) ∙ t

pub turnable-within : (x : Float) → turnable x ≡ true → Within 128 x
unfolding turnable of_bits
turnable-within x t = within-of-le 128 x (bits 0x4060000000000000) (subst T (sym t) tt) (refl, refl)

-- a function of the reduced angle, or a NaN where there is none
pub angle-or : (x : Float) (o : Option Angle) (y : Float) (f : Angle → Float) {Q : Angle → Type 0} → o ≡ cond (turnable x) (Some (reduced_of x)) None
    → MatchOption o (y ≡ nan) Q
    → ((a : Angle) → Q a → y ≡ f a)
    → y ≡ cond (turnable x) (f (reduced_of x)) nan
angle-or x o y f {Q} e h k = go (turnable x) (subst (λ (z : Option Angle). MatchOption z (y ≡ nan) Q) e h)
  where
    go : (b : Bool) → MatchOption (cond b (Some (reduced_of x)) None) (y ≡ nan) Q → y ≡ cond b (f (reduced_of x)) nan
    go true q = k (reduced_of x) q
    go false n = n

pub turns-within : (x : Float) → Within 128 x → Within (2 ^ 52) (x ⊗ bits 0x3FE45F306DC9C883)
turns-within x h = within-mono 128 (2 ^ 52) (x ⊗ bits 0x3FE45F306DC9C883) (lit≤ tt)
    (mul-within 128 1 x (bits 0x3FE45F306DC9C883) h (unfold Within of_bits in lit≤ tt) (lit≤ tt))

-- ---- exp: k is from -1021 to 1023
near-bound : (x : Float) (K : ℕ) → closest K 1 ≡ K → Within K x → closest (num x) (den x) ≤ K
unfolding Within
near-bound nan K e h = absurd h
near-bound (inf s) K e h = absurd h
near-bound (fin s m e) K c h = le_trans (closest_mono (m * up e) (down e) K 1 (down_pos e) (pow_pos 0) (le_trans (le_of_eq (mul-one (m * up e))) h))
    (le_of_eq c)

scale_small : (s : Bool) (n : ℕ) → n ≤ 1022 → Scale (cond s (neg_ℤ (pos n)) (pos n))
scale_small true zero h = zero-le
scale_small true (suc n) h = le_of_suc-le-suc h
scale_small false n h = le_trans h (lit≤ tt)

scale-neg : (x : Float) → Within 1022 x → Scale (nearest_of x)
unfolding nearest_of
scale-neg nan h = zero-le
scale-neg (inf s) h = zero-le
scale-neg (fin s m e) h = scale_small s (closest (m * up e) (down e)) (near-bound (fin s m e) 1022 refl h)

scale-pos : (x : Float) → Within 1023 x → Scale (nearest_of (abs_of x))
unfolding nearest_of abs_of
scale-pos nan h = zero-le
scale-pos (inf s) h = zero-le
scale-pos (fin s m e) h = near-bound (fin s m e) 1023 refl h

-- x / ln 2: ln 2's float is 6243314768165359 / 2 ^ 53
quotient : (s : Bool) (m : ℕ) (e : ℤ) → fin s m e ⊘ ln2 ≡ round binary64 s (m * up e * 2 ^ 53) (6243314768165359 * down e)
unfolding Ieee.div of_bits
quotient true m e = refl
quotient false m e = refl

-- what x / ln 2 is owed, for an x that is at most 709 and not negative, or at least -708 and negative
abbrev pub Ranged : Float → Type 0
Ranged x = Within 1023 (x ⊘ ln2) × Scale (nearest_of (x ⊘ ln2))

pub ranged : (x : Float) → lt (bits 0x4086280000000000) x ≡ false → lt x (Ieee.neg (bits 0x4086200000000000)) ≡ false → Ieee.is_nan x ≡ false → Ranged x
ranged nan p q n = absurd (unfold Ieee.is_nan in true≢false n)
ranged (inf true) p q n = absurd (unfold lt of_bits Ieee.neg in true≢false q)
ranged (inf false) p q n = absurd (unfold lt of_bits in true≢false p)
ranged (fin false m e) p q n =
    let l : m * up e * 1 ≤ 709 * down e = unfold lt of_bits in ltb-false (709 * down e) (m * up e * 1) p in
    let B : 0 < 6243314768165359 * down e = mul-pos (lit< tt) (down_pos e) in
    let r = round binary64 false (m * up e * 2 ^ 53) (6243314768165359 * down e) in
    let w = round-within 1023 false (m * up e * 2 ^ 53) (6243314768165359 * down e) B (lit≤ tt) (omega arith) in
    subst⁻¹ (λ (z : Float). Within 1023 z × Scale (nearest_of z)) (quotient false m e)
    (w, subst (λ (z : Float). Scale (nearest_of z)) (round-abs false (m * up e * 2 ^ 53) (6243314768165359 * down e)) (scale-pos r w))
ranged (fin true m e) p q n =
    let l : m * up e * 1 ≤ 708 * down e = unfold lt of_bits Ieee.neg in ltb-false (708 * down e) (m * up e * 1) q in
    let B : 0 < 6243314768165359 * down e = mul-pos (lit< tt) (down_pos e) in
    let r = round binary64 true (m * up e * 2 ^ 53) (6243314768165359 * down e) in
    let w = round-within 1022 true (m * up e * 2 ^ 53) (6243314768165359 * down e) B (lit≤ tt) (omega arith) in
    subst⁻¹ (λ (z : Float). Within 1023 z × Scale (nearest_of z)) (quotient true m e) (within-mono 1022 1023 r (lit≤ tt) w, scale-neg r w)

pub ranged-within : (x : Float) → Ranged x → Within (2 ^ 52) (x ⊘ ln2)
ranged-within x h = within-mono 1023 (2 ^ 52) (x ⊘ ln2) (lit≤ tt) h.0
