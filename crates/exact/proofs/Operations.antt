-- The law of proofs/Rounding for sums and products of finite values.
use mathlib.Core.Path.{◌≡◌, refl, sym, ap, ap₂, ◌∙◌, subst}
use mathlib.Core.Logic.{inl, inr}
use mathlib.Core.Bool.{Bool, true, false, ◌&&◌}
use Prim.Native.Nat.{ℕ, suc, ◌+◌, ◌-◌, ◌*◌, ◌^◌, ◌≤◌, ◌<◌, zero-le}
use native.Mathlib.Nat.{le_trans, le_of_eq, eq-or-lt_of_le, eq_of_mul-eq-mul_right, lt_of_le_of_lt, lt_of_lt_of_le, mul-lt-mul_of_pos_right}
use native.Mathlib.Nat.{lt_of_mul-lt-mul_right, mul-pos, mul-one, mul_comm}
use native.Mathlib.Omega.{arith}
use lib.Pow.{pow_pos}
use lib.IntN.{ℤ, pos, nat_abs, ◌+ℤ◌, ◌*ℤ◌}
use lib.Ieee.{Float, fin, Format, prec, emax, low, up, down, round, fits, add, mul, unlike}
use lib.Ieee.Fits.{down_pos}
use Rattle.ieee.specs.Arithmetic.{Rounded, gain, loss}
use Rattle.ieee.proofs.Grid.{or_lt}
use Rattle.ieee.proofs.Arithmetic.{add-correct}
use Rattle.ieee.proofs.Unique.{nearest-is-round}
use Rattle.exact.specs.Scaled.{IsValue, scale, with_sign, scaled}
use Rattle.exact.proofs.Whole.{Is, add_is, mul_is, times-one, signed, sign-plus, sign-minus, abs-sign}
use Rattle.exact.proofs.Distance.{off_self}
use Rattle.exact.proofs.Values.{FiniteValue, two-finite, own_value, own_sign, scaled-zero}
use Rattle.exact.proofs.Rounding.{Near, round-near}

-- ---- products

sign-mul : (s t : Bool) (a b : ℕ) → with_sign s a *ℤ with_sign t b ≡ with_sign (unlike s t) (a * b)
sign-mul s t a b =
    let z = with_sign s a *ℤ with_sign t b in
    signed (unlike s t) z (a * b)
    (go s t z (rw (sign-plus s a, sign-plus t b, sign-minus s a, sign-minus t b) at (mul_is (with_sign s a) (with_sign t b))))
  where
    go : (s t : Bool) (z : ℤ) → Is z (gain s a * gain t b + loss s a * loss t b) (gain s a * loss t b + loss s a * gain t b)
        → Is z (gain (unlike s t) (a * b)) (loss (unlike s t) (a * b))
    go false false z h = omega arith
    go false true z h = omega arith
    go true false z h = omega arith
    go true true z h = omega arith

-- of x * y, a number of at most 2 ^ k
abbrev pub NearProduct : Format → ℕ → Float → Float → Type 0
NearProduct f k x y = nat_abs (scaled f x *ℤ scaled f y) ≤ 2 ^ k * scale f * scale f → Near f k (scale f) (scaled f x *ℤ scaled f y) (mul f x y)

mul-parts : (f : Format) (k : ℕ) → k ≤ emax f → (s t : Bool) (m n : ℕ) (e d : ℤ) → IsValue f (fin s m e) → IsValue f (fin t n d)
    → NearProduct f k (fin s m e) (fin t n d)
unfolding mul
mul-parts f k K s t m n e d h g l =
    let x = fin s m e in
    let y = fin t n d in
    let X = nat_abs (scaled f x) in
    let Y = nat_abs (scaled f y) in
    let u = unlike s t in
    let E : scaled f x *ℤ scaled f y ≡ with_sign u (X * Y) = ap₂ ◌*ℤ◌ (own_sign f s m e h) (own_sign f t n d g) ∙ sign-mul s t X Y in
    subst (λ (z : ℤ). Near f k (scale f) z (mul f x y)) (sym E)
    (round-near f k (scale f) u (m * up e * (n * up d)) (down e * down d) (X * Y) (mul-pos (down_pos e) (down_pos d)) (pow_pos (low f)) K
    (turn (m * up e) (n * up d) (scale f) ∙ ap₂ ◌*◌ (own_value f s m e h).1 (own_value f t n d g).1 ∙ across X (down e) Y (down d))
    (le_trans (le_of_eq (sym (ap nat_abs E ∙ abs-sign u (X * Y)))) l))
  where
    turn : (a b l : ℕ) → a * b * l * l ≡ a * l * (b * l)
    turn a b l = omega arith

    across : (x d y c : ℕ) → x * d * (y * c) ≡ x * y * (d * c)
    across x d y c = omega arith

pub mul-near : (f : Format) (k : ℕ) → k ≤ emax f → (x y : Float) → FiniteValue f x → FiniteValue f y → NearProduct f k x y
mul-near f k K = two-finite f (NearProduct f k) (mul-parts f k K)

-- ---- sums

near-zero : (f : Format) (k : ℕ) (z : Bool) → Near f k 1 (pos 0) (fin z 0 (pos 0))
unfolding fits
near-zero f k z =
    let is : scaled f (fin z 0 (pos 0)) *ℤ pos 1 ≡ pos 0 = times-one (scaled f (fin z 0 (pos 0))) ∙ scaled-zero f z in
    record {
      value = record { is_value = tt; is_finite = refl };
      error = rw is (le_trans (off_self (2 ^ suc (prec f)) (pos 0)) zero-le);
      exact = λ q i Q O h. is;
      within = λ q i Q O h. rw (scaled-zero f z) zero-le;
    }

-- a difference, scaled
module _ (A B U W c D : ℕ) (C : 0 < c) (h : B < A) (x : A * c ≡ U * D) (y : B * c ≡ W * D) where
  less : W < U
  less = lt_of_mul-lt-mul_right D (lt_of_le_of_lt (le_of_eq (sym y)) (lt_of_lt_of_le (mul-lt-mul_of_pos_right h C) (le_of_eq x)))

  rest : U ≡ W + (U - W)
  rest = let l = less in omega arith

  scaled-rest : (A - B) * c ≡ (U - W) * D
  scaled-rest = cut (A - B) (U - W) (whole A B h) rest
    where
      whole : (A B : ℕ) → B < A → A ≡ B + (A - B)
      whole A B h = omega arith

      cut : (S T : ℕ) → A ≡ B + S → U ≡ W + T → S * c ≡ T * D
      cut S T p q = omega (arith, ap (λ (z : ℕ). z * c) p, ap (λ (z : ℕ). z * D) q)

-- P / D and N / D are p and n, scaled, and E is their difference
module _ (f : Format) (k P N D p n : ℕ) (z : Bool) (r : Float) (E : ℤ) (d : 0 < D) (K : k ≤ emax f) (R : Rounded f P N D z r) (i : Is E p n)
    (a : P * scale f ≡ p * D) (b : N * scale f ≡ n * D) (l : nat_abs E ≤ 2 ^ k * scale f) where
  one_side : (s : Bool) (A w : ℕ) → Is E (gain s w) (loss s w) → A * scale f ≡ w * D → r ≡ round f s A D → Near f k 1 E r
  one_side s A w g x q =
      let e : E ≡ with_sign s w = signed s E w g in
      let m : w ≤ 2 ^ k * scale f * 1 = le_trans (le_of_eq (sym (ap nat_abs e ∙ abs-sign s w))) (le_trans l (le_of_eq (sym (mul-one (2 ^ k * scale f))))) in
      subst (λ (y : Float). Near f k 1 E y) (sym q)
      (subst (λ (y : ℤ). Near f k 1 y (round f s A D)) (sym e) (round-near f k 1 s A D w d (pow_pos 0) K (mul-one (A * scale f) ∙ x) m))

  no-side : P ≡ N → E ≡ pos 0
  no-side e = let o : p ≡ n = eq_of_mul-eq-mul_right D d p n (omega (arith, ap (λ (y : ℕ). y * scale f) e)) in
      signed false E 0 (omega arith)

  rounded-near : Near f k 1 E r
  rounded-near =
      let c = pow_pos (low f) in
      elim (or_lt P N) [
        | inl le ↦
            elim (eq-or-lt_of_le le) [
              | inl e ↦
                  subst (λ (y : ℤ). Near f k 1 y r) (sym (no-side (sym e)))
                  (subst (λ (y : Float). Near f k 1 (pos 0) y) (sym (R.none (sym e))) (near-zero f k z))
              | inr h ↦
                  let o = rest P N p n (scale f) D c h a b in
                  one_side false (P - N) (p - n) (omega arith) (scaled-rest P N p n (scale f) D c h a b) (nearest-is-round f false (P - N) D r d (R.plus h))
            ]
        | inr h ↦
            let o = rest N P n p (scale f) D c h b a in
            one_side true (N - P) (n - p) (omega arith) (scaled-rest N P n p (scale f) D c h b a) (nearest-is-round f true (N - P) D r d (R.minus h))
      ]

-- two values, brought to one denominator
module _ (f : Format) (s : Bool) (m : ℕ) (e : ℤ) (b : ℕ) (h : IsValue f (fin s m e)) where
  over : m * up e * b * scale f ≡ nat_abs (scaled f (fin s m e)) * (down e * b)
  over = go (m * up e) (scale f) (nat_abs (scaled f (fin s m e))) (down e) (own_value f s m e h).1
    where
      go : (a l x c : ℕ) → a * l ≡ x * c → a * b * l ≡ x * (c * b)
      go a l x c z = omega (arith, ap (λ (y : ℕ). y * b) z)

-- and the parts of their sum
parts : (s t : Bool) (A B X Y L D : ℕ) → A * L ≡ X * D → B * L ≡ Y * D
    → ((gain s A + gain t B) * L ≡ (gain s X + gain t Y) * D) × ((loss s A + loss t B) * L ≡ (loss s X + loss t Y) * D)
parts false false A B X Y L D x y = omega arith
parts false true A B X Y L D x y = omega arith
parts true false A B X Y L D x y = omega arith
parts true true A B X Y L D x y = omega arith

-- of x + y, a number of at most 2 ^ k
abbrev pub NearSum : Format → ℕ → Float → Float → Type 0
NearSum f k x y = nat_abs (scaled f x +ℤ scaled f y) ≤ 2 ^ k * scale f → Near f k 1 (scaled f x +ℤ scaled f y) (add f x y)

add_parts : (f : Format) (k : ℕ) → k ≤ emax f → (s t : Bool) (m n : ℕ) (e d : ℤ) → IsValue f (fin s m e) → IsValue f (fin t n d)
    → NearSum f k (fin s m e) (fin t n d)
add_parts f k K s t m n e d h g l =
    let x = fin s m e in
    let y = fin t n d in
    let X = nat_abs (scaled f x) in
    let Y = nat_abs (scaled f y) in
    let A = m * up e * down d in
    let B = n * up d * down e in
    let D = down e * down d in
    let right : B * scale f ≡ Y * D = over f t n d (down e) g ∙ ap (λ (z : ℕ). Y * z) (mul_comm (down d) (down e)) in
    let p = parts s t A B X Y (scale f) D (over f s m e (down d) h) right in
    rounded-near f k (gain s A + gain t B) (loss s A + loss t B) D (gain s X + gain t Y) (loss s X + loss t Y) (s && t) (add f x y) (scaled f x +ℤ scaled f y)
    (mul-pos (down_pos e) (down_pos d)) K (add-correct f x y) (sums s t X Y (own_sign f s m e h) (own_sign f t n d g)) p.0 p.1 l
  where
    sums : (s t : Bool) (X Y : ℕ) {u v : ℤ} → u ≡ with_sign s X → v ≡ with_sign t Y → Is (u +ℤ v) (gain s X + gain t Y) (loss s X + loss t Y)
    sums s t X Y eu ev = rw (eu, ev, ← sign-plus s X, ← sign-plus t Y, ← sign-minus s X, ← sign-minus t Y) (add_is (with_sign s X) (with_sign t Y))

pub add-near : (f : Format) (k : ℕ) → k ≤ emax f → (x y : Float) → FiniteValue f x → FiniteValue f y → NearSum f k x y
add-near f k K = two-finite f (NearSum f k) (add_parts f k K)
