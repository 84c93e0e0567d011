-- How far a rounded number is off the exact one, over whole numbers: where the exact one has a magnitude of at most 2 ^ k, by half a last place there,
-- 2 ^ (k - prec - 1), at most; and a bound that is itself a value of the format stays a bound. One law for `round`, over the format, k and the scale:
-- sums and products are instances of it.
use mathlib.Core.Path.{◌≡◌, sym, ap, ◌∙◌, subst}
use mathlib.Core.Logic.{inl, inr}
use mathlib.Core.Bool.{Bool}
use Prim.Native.Nat.{ℕ, suc, ◌+◌, ◌-◌, ◌*◌, ◌/◌, ◌^◌, ◌≤◌, ◌<◌}
use native.Mathlib.Nat.{le_trans, le_of_eq, le_of_lt, lt_of_le_of_lt, lt_of_lt_of_le, eq-or-lt_of_le, mul-pos, mul_assoc, one-mul, mul-le-mul_left}
use native.Mathlib.Nat.{mul-le-mul_right, mul-lt-mul_of_pos_right, le_of_mul-le-mul_right, lt_of_mul-lt-mul_right, eq_of_mul-eq-mul_right}
use native.Mathlib.Nat.{mul_right_comm, div-lt_iff_lt-mul, pow-succ'}
use native.Mathlib.Omega.{arith}
use lib.Dec.{lit<}
use lib.Pow.{pow-add, pow_pos, pow_mono, pow-lt}
use lib.IntN.{ℤ, pos, nat_abs, ◌*ℤ◌}
use lib.Ieee.{Float, Format, binary32, binary64, prec, emax, low, odd, round, size}
use lib.Ieee.Digits.{size-le}
use lib.Ieee.Exact.{HasValue, odd_sign, units_val, round_exact}
use lib.Ieee.Fits.{two, two-le_pos, odd-fits, round_is, round-fits}
use lib.Ieee.Order.{drop, kept}
use Rattle.ieee.specs.Nearest.{num, den, mid_num, mid_den}
use Rattle.ieee.proofs.Grid.{overflow, den_pos, signed, counted, rescale, middle, or_lt}
use Rattle.ieee.proofs.Fractions.{closest-half, round-nearest}
use Rattle.ieee.proofs.Unique.{back-order}
use Rattle.exact.specs.Scaled.{scale, with_sign, scaled}
use Rattle.exact.proofs.Whole.{abs-sign, sign-times}
use Rattle.exact.proofs.Distance.{OffBy, distance-sign}
use Rattle.exact.proofs.Values.{FiniteValue, scaled_value, value-finite}

-- ---- half a last place at 2 ^ k, scaled
abbrev half : Format → ℕ → ℕ
half f k = 2 ^ (low f + k - suc (prec f))

deep : (f : Format) → prec f < low f
deep binary32 = lit< tt
deep binary64 = lit< tt

half_is : (f : Format) (k : ℕ) → half f k * 2 ^ suc (prec f) ≡ 2 ^ k * scale f
half_is f k =
    sym (pow-add 2 (low f + k - suc (prec f)) (suc (prec f))) ∙ ap (λ (z : ℕ). 2 ^ z) (total (low f) k (prec f) (deep f)) ∙ pow-add 2 k (low f)
  where
    total : (l k p : ℕ) → p < l → l + k - suc p + suc p ≡ k + l
    total l k p h = omega arith

half_twice : (f : Format) (k : ℕ) → 2 ^ (low f + k - prec f) ≡ half f k + half f k
half_twice f k = ap (λ (z : ℕ). 2 ^ z) (one (low f) k (prec f) (deep f)) ∙ pow-succ' 2 (low f + k - suc (prec f)) ∙ twice (half f k)
  where
    one : (l k p : ℕ) → p < l → l + k - p ≡ suc (l + k - suc p)
    one l k p h = omega arith

    twice : (z : ℕ) → 2 * z ≡ z + z
    twice z = omega arith

-- ---- a fraction a / b of the sign s, which is at most 2 ^ k, and the whole number n of smallest values that it is rounded to
record Rounds (f : Format) (s : Bool) (a b k : ℕ) (r : Float) : Type 0 where
  n : ℕ
  value : HasValue r s n (scale f)
  above : n * b ≤ a * scale f + b * half f k
  below : a * scale f ≤ n * b + b * half f k

module _ (f : Format) (s : Bool) (a b k : ℕ) (B : 0 < b) (K : k ≤ emax f) where
  top : suc (low f + k) ≤ low f + suc (emax f)
  top = more (low f) k (emax f) K
    where
      more : (l k e : ℕ) → k ≤ e → suc (l + k) ≤ l + suc e
      more l k e h = omega arith

  -- 2 ^ k and half a last place more do not overflow
  doubled : 2 ^ (low f + k) + half f k ≤ overflow f
  doubled =
      le_trans (sum (2 ^ (low f + k)) (half f k) (pow_mono (drops (low f + k) (prec f))))
      (le_trans (le_of_eq (sym (pow-succ' 2 (low f + k)))) (pow_mono top))
    where
      drops : (t p : ℕ) → t - suc p ≤ t
      drops t p = omega arith

      sum : (P H : ℕ) → H ≤ P → P + H ≤ 2 * P
      sum P H h = omega arith

  turn : 2 ^ k * b * scale f ≡ 2 ^ (low f + k) * b
  turn = go (2 ^ k) b (scale f) ∙ ap (λ (z : ℕ). z * b) (sym (pow-add 2 (low f) k))
    where
      go : (p b l : ℕ) → p * b * l ≡ l * p * b
      go p b l = omega arith

  -- at 2 ^ k itself nothing is lost
  rounds-top : a ≡ 2 ^ k * b → Rounds f s a b k (round f s a b)
  rounds-top e =
      let n = 2 ^ (low f + k) in
      let x : a * scale f ≡ n * b = ap (λ (z : ℕ). z * scale f) e ∙ turn in
      let y : a * scale f ≡ 1 * n * b = x ∙ ap (λ (z : ℕ). z * b) (sym (one-mul n)) in
      let v = round_exact f s a b 1 (low f + k) B (pow-lt {i = 0} (two-le_pos (prec f) (two f))) (lt_of_le_of_lt (le_of_eq (one-mul n)) (pow-lt top)) y in
      record { n = n; value = rescale (round f s a b) s a b n (scale f) B (sym x) v; above = omega (arith, x); below = omega (arith, x) }

  -- below it the last place that is kept is at most two halves
  rounds-under : a < 2 ^ k * b → Rounds f s a b k (round f s a b)
  rounds-under h =
      let x = a * scale f in
      let j = drop (prec f) x b in
      let q = kept (prec f) x b in
      let l : x < 2 ^ (low f + k) * b = lt_of_lt_of_le (mul-lt-mul_of_pos_right h (pow_pos (low f))) (le_of_eq turn) in
      let z : size (x / b) ≤ low f + k = size-le (x / b) (low f + k) ((div-lt_iff_lt-mul B).1 l) in
      let u : 2 ^ j ≤ half f k + half f k = le_trans (pow_mono (less (size (x / b)) (low f + k) (prec f) z)) (le_of_eq (half_twice f k)) in
      let c = closest-half x (b * 2 ^ j) (mul-pos B (pow_pos j)) in
      let w = mul-le-mul_left b u in
      let above : q * 2 ^ j * b ≤ x + b * half f k = up-half q (2 ^ j) b x (half f k) w c.lo in
      let below : x ≤ q * 2 ^ j * b + b * half f k = down-half q (2 ^ j) b x (half f k) w c.hi in
      let o : q * 2 ^ j < overflow f =
      lt_of_mul-lt-mul_right b (lt_of_le_of_lt above (lt_of_lt_of_le (grow x (2 ^ (low f + k)) b (half f k) l) (mul-le-mul_right b doubled))) in
      record {
        n = q * 2 ^ j;
        value = subst (λ (y : Float). HasValue y s (q * 2 ^ j) (scale f)) (sym (round_is f s a b)) (units_val f s q j o);
        above = above;
        below = below;
      }
    where
      less : (z t p : ℕ) → z ≤ t → z - p ≤ t - p
      less z t p h = omega arith

      up-half : (q U b x H : ℕ) → b * U ≤ b * (H + H) → q * (b * U) + q * (b * U) ≤ x + x + b * U → q * U * b ≤ x + b * H
      up-half q U b x H w c = omega arith

      down-half : (q U b x H : ℕ) → b * U ≤ b * (H + H) → x + x ≤ q * (b * U) + q * (b * U) + b * U → x ≤ q * U * b + b * H
      down-half q U b x H w c = omega arith

      grow : (x P b H : ℕ) → x < P * b → x + b * H < (P + H) * b
      grow x P b H h = omega arith

  rounds : a ≤ 2 ^ k * b → Rounds f s a b k (round f s a b)
  rounds h = elim (eq-or-lt_of_le h) [
    | inl e ↦ rounds-top e
    | inr l ↦ rounds-under l
  ]

-- ---- a value of the format that bounds the fraction bounds what it is rounded to
bounded : (f : Format) (s : Bool) (a b n q i : ℕ) → 0 < b → HasValue (round f s a b) s n (scale f) → q < 2 ^ prec f → q * 2 ^ i < overflow f
    → a * scale f ≤ q * 2 ^ i * b → n ≤ q * 2 ^ i
bounded f s a b n q i B v Q O h =
    let r = round f s a b in
    let c = q * 2 ^ i in
    let w = odd (suc (prec f)) s q i (low f) in
    let x = odd_sign (suc (prec f)) s q i (low f) in
    let rv = counted f s r n (scale f) v in
    let wv = counted f s w c (scale f) x in
    elim (or_lt c n) [
      | inl le ↦ le
      | inr lt ↦
          let held = odd-fits f (suc (prec f)) s q i (lt_of_lt_of_le Q (pow_mono (up_one (prec f)))) (le_of_lt Q) O in
          let smaller = back-order (num f w) (den w) (num f r) (den r) (scale f) c n (den_pos w) (den_pos r) wv rv lt in
          let m = (round-nearest f s a b B).from_below w held (signed s w c (scale f) x) smaller in
          half_back n c
          (cancelled (mid_num f r w) (mid_den r w) b a (scale f) (n + c) c (mul-pos (pow_pos 1) (mul-pos (den_pos r) (den_pos w))) B m
          (middle (num f r) (den r) (num f w) (den w) (scale f) n c rv wv) h)
    ]
  where
    up_one : (p : ℕ) → p ≤ suc p
    up_one p = omega arith

    half_back : (n c : ℕ) → n + c ≤ 2 * c → n ≤ c
    half_back n c h = omega arith

    cancelled : (X Y b a L S c : ℕ) → 0 < Y → 0 < b → X * b ≤ a * Y → X * (2 * L) ≡ S * Y → a * L ≤ c * b → S ≤ 2 * c
    cancelled X Y b a L S c y B m e h =
        le_of_mul-le-mul_right (omega (arith, mul-le-mul_right (2 * L) m, ap (λ (z : ℕ). z * b) e, mul-le-mul_right (2 * Y) h)) (mul-pos y B)

-- ---- THE LAW

-- r is what the exact number E / (D * scale f) is rounded to, whose magnitude is at most 2 ^ k
pub record Near (f : Format) (k D : ℕ) (E : ℤ) (r : Float) : Type 0 where
  pub value : FiniteValue f r
  -- |r - the exact number| ≤ 2 ^ (k - prec - 1), each side scaled
  pub error : OffBy (2 ^ suc (prec f)) (scaled f r *ℤ pos D) E (2 ^ k * scale f * D)
  -- where the exact number is a value of the format, r is it
  pub exact : (q i : ℕ) → q < 2 ^ prec f → q * 2 ^ i < overflow f → nat_abs E ≡ q * 2 ^ i * D → scaled f r *ℤ pos D ≡ E
  -- a bound that is a value of the format
  pub within : (q i : ℕ) → q < 2 ^ prec f → q * 2 ^ i < overflow f → nat_abs E ≤ q * 2 ^ i * D → nat_abs (scaled f r) ≤ q * 2 ^ i

-- a / b is M / (D * scale f)
pub round-near : (f : Format) (k D : ℕ) (s : Bool) (a b M : ℕ) → 0 < b → 0 < D → k ≤ emax f → a * scale f * D ≡ M * b → M ≤ 2 ^ k * scale f * D
    → Near f k D (with_sign s M) (round f s a b)
round-near f k D s a b M B d K e m =
    let r = round f s a b in
    let H = half f k in
    let small : a ≤ 2 ^ k * b =
    le_of_mul-le-mul_right
    (le_trans (le_of_eq (sym (mul_assoc a (scale f) D) ∙ e)) (le_trans (mul-le-mul_right b m) (le_of_eq (turned (2 ^ k) (scale f) D b))))
    (mul-pos (pow_pos (low f)) d) in
    let g = rounds f s a b k B K small in
    let n = g.n in
    let is : scaled f r ≡ with_sign s n = scaled_value f s r n g.value in
    let over : n * D ≤ M + H * D = le_of_mul-le-mul_right (omega (arith, mul-le-mul_right D g.above, e)) B in
    let under : M ≤ n * D + H * D = le_of_mul-le-mul_right (omega (arith, mul-le-mul_right D g.below, e)) B in
    record {
      value = record { is_value = round-fits f s a b; is_finite = value-finite s r n (scale f) g.value };
      error = rw is
          (le_trans (mul-le-mul_right (2 ^ suc (prec f)) (distance-sign s n M D (H * D) over under))
          (le_of_eq (mul_right_comm H D (2 ^ suc (prec f)) ∙ ap (λ (z : ℕ). z * D) (half_is f k))));
      exact = λ q i Q O h.
          let c = q * 2 ^ i in
          let m : M ≡ c * D = sym (abs-sign s M) ∙ h in
          let x : a * scale f ≡ c * b = eq_of_mul-eq-mul_right D d (a * scale f) (c * b) (e ∙ ap (λ (z : ℕ). z * b) m ∙ mul_right_comm c D b) in
          ap (λ (z : ℤ). z *ℤ pos D) (scaled_value f s r c (rescale r s a b c (scale f) B (sym x) (round_exact f s a b q i B Q O x)))
          ∙ sign-times s c D
          ∙ ap (with_sign s) (sym m);
      within = λ q i Q O h.
          let c = q * 2 ^ i in
          rw (is, abs-sign s n)
          (bounded f s a b n q i B g.value Q O
          (le_of_mul-le-mul_right (le_trans (le_of_eq e) (le_trans (mul-le-mul_right b (rw (abs-sign s M) at h)) (le_of_eq (mul_right_comm c D b)))) d));
    }
  where
    turned : (p l D b : ℕ) → p * l * D * b ≡ p * b * (l * D)
    turned p l D b = omega arith
