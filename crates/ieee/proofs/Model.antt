-- `sqrt_of` is the square root, for every format and every x (`sqrt_of-correct`).
use mathlib.Core.Path.{◌≡◌, refl, sym, subst}
use mathlib.Core.Bool.{Bool, true, false, not, cond}
use Prim.Native.Nat.{ℕ, zero, suc, ◌+◌, ◌*◌, ◌/◌, ◌^◌, ◌≤◌, ◌<◌}
use native.Mathlib.Nat.{le_trans, le_of_eq, le_of_lt, lt_of_lt_of_le, lt_of_le_of_lt, lt_of_not-le, not-le_of_lt, mul-pos, mul-le-mul, mul-le-mul_right}
use native.Mathlib.Nat.{le_of_mul-le-mul_right, zero-lt-suc, pow-suc, pow-succ', pow-le-pow_left, div-lt_iff_lt-mul}
use native.Mathlib.Omega.{arith}
use lib.Dec.{T, ltb, eqb, ltb→lt, nltb→le, eqb→eq, lit≤}
use lib.Pow.{pow_pos}
use lib.Arith.{lt_of_le-ne}
use lib.Ieee.{Float, nan, inf, fin, Format, low, up, down, size, round}
use lib.Ieee.Digits.{size-lt}
use lib.Ieee.Fits.{down_pos, eq→eqb}
use Rattle.ieee.specs.Nearest.{Real, fraction, root, num, den, mid_num, mid_den, Nearest}
use Rattle.ieee.specs.Sqrt.{Sqrt, isqrt, with_sticky, root_of, sqrt_of}
use Rattle.ieee.proofs.Grid.{mid-pos, half_pos, OnGrid, on-grid, Lawful, middle}
use Rattle.ieee.proofs.Roots.{root-lawful}
use Rattle.ieee.proofs.Fractions.{fraction-lawful, round-nearest}
use Rattle.ieee.proofs.Unique.{sq-le-back}

-- ---- the whole part of √n
abbrev IsRoot : ℕ → ℕ → Type 0
IsRoot s n = (s * s ≤ n) × (n < (s + 1) * (s + 1))

isqrt-is : (k n : ℕ) → n < 4 ^ k → IsRoot (isqrt k n) n
unfolding isqrt
isqrt-is zero n h = omega arith
isqrt-is (suc k) n h = go (isqrt k (n / 4)) (isqrt-is k (n / 4) ((div-lt_iff_lt-mul (zero-lt-suc 3)).1 (subst (λ (x : ℕ). n < x) (pow-suc 4 k) h)))
  where
    pick : (s : ℕ) → IsRoot s (n / 4) → (t : Bool) → (T t → n < (2 * s + 1) * (2 * s + 1)) → (T (not t) → (2 * s + 1) * (2 * s + 1) ≤ n)
        → IsRoot (cond t (2 * s) (2 * s + 1)) n
    pick s r true a b = (omega (arith, r.0), a tt)
    pick s r false a b = (b tt, omega (arith, r.1))

    go : (s : ℕ) → IsRoot s (n / 4) → IsRoot (cond (ltb n ((2 * s + 1) * (2 * s + 1))) (2 * s) (2 * s + 1)) n
    go s r = pick s r (ltb n ((2 * s + 1) * (2 * s + 1))) (ltb→lt n ((2 * s + 1) * (2 * s + 1))) (nltb→le n ((2 * s + 1) * (2 * s + 1)))

whole-root : (n : ℕ) → IsRoot (isqrt (size n) n) n
whole-root n = isqrt-is (size n) n (lt_of_lt_of_le (size-lt n) (pow-le-pow_left (lit≤ tt) (size n)))

-- ---- √n against whole numbers: as the half of `with_sticky`
record Sides (A n : ℕ) : Type 0 where
  most : (y : ℕ) → n ≤ y * y → A ≤ 2 * y
  most-back : (y : ℕ) → A ≤ 2 * y → n ≤ y * y
  least : (y : ℕ) → y * y ≤ n → 2 * y ≤ A
  least-back : (y : ℕ) → 2 * y ≤ A → y * y ≤ n

lt-of-sq : (x y : ℕ) → x * x < y * y → x < y
lt-of-sq x y h = lt_of_not-le (λ (g : y ≤ x). not-le_of_lt h (mul-le-mul g g))

sides : (s n : ℕ) → IsRoot s n → Sides (with_sticky s n) n
unfolding with_sticky
sides s n r = go (eqb (s * s) n) (eqb→eq (s * s) n) (λ (e : s * s ≡ n). eq→eqb e)
  where
    under : (y : ℕ) → y * y ≤ n → y ≤ s
    under y h = omega (arith, lt-of-sq y (s + 1) (lt_of_le_of_lt h r.1))

    twice : (x y : ℕ) → x ≤ y → 2 * x ≤ 2 * y
    twice x y h = omega arith

    half : (x y : ℕ) → 2 * x ≤ 2 * y → x ≤ y
    half x y h = omega arith

    half-one : (x y : ℕ) → 2 * x ≤ 2 * y + 1 → x ≤ y
    half-one x y h = omega arith

    one-half : (x y : ℕ) → 2 * x + 1 ≤ 2 * y → x + 1 ≤ y
    one-half x y h = omega arith

    go : (t : Bool) → (T t → s * s ≡ n) → (s * s ≡ n → T t) → Sides (cond t (2 * s) (2 * s + 1)) n
    go true a b = record {
      most = λ y h. twice s y (sq-le-back s y (le_trans r.0 h));
      most-back = λ y h. le_trans (le_of_eq (sym (a tt))) (mul-le-mul (half s y h) (half s y h));
      least = λ y h. twice y s (under y h);
      least-back = λ y h. le_trans (mul-le-mul (half y s h) (half y s h)) r.0;
    }
    go false a b = record {
      most = λ y h. omega (arith, lt-of-sq s y (lt_of_lt_of_le (lt_of_le-ne r.0 b) h));
      most-back = λ y h. le_trans (le_of_lt r.1) (mul-le-mul (one-half s y h) (one-half s y h));
      least = λ y h. omega (arith, twice y s (under y h));
      least-back = λ y h. le_trans (mul-le-mul (half-one y s h) (half-one y s h)) r.0;
    }

-- ---- two reals that compare alike with every middle have the same nearest value
module _ (f : Format) (s : Bool) (ρ σ : Real) (law : Lawful ρ) (law' : Lawful σ)
    (most : (a : ℕ) → ρ.at_most a (2 * 2 ^ low f) → σ.at_most a (2 * 2 ^ low f))
    (most-back : (a : ℕ) → σ.at_most a (2 * 2 ^ low f) → ρ.at_most a (2 * 2 ^ low f))
    (least : (a : ℕ) → ρ.at_least a (2 * 2 ^ low f) → σ.at_least a (2 * 2 ^ low f))
    (least-back : (a : ℕ) → σ.at_least a (2 * 2 ^ low f) → ρ.at_least a (2 * 2 ^ low f)) where
  abbrev count : (v w : Float) → OnGrid f v → OnGrid f w → ℕ
  count v w g o = g.n * 2 ^ g.j + o.n * 2 ^ o.j

  mid : (v w : Float) (g : OnGrid f v) (o : OnGrid f w) → mid_num f v w * (2 * 2 ^ low f) ≡ count v w g o * mid_den v w
  mid v w g o = middle (num f v) (den v) (num f w) (den w) (2 ^ low f) (g.n * 2 ^ g.j) (o.n * 2 ^ o.j) g.value o.value

  go-most : (ρ σ : Real) → Lawful ρ → Lawful σ → ((a : ℕ) → ρ.at_most a (2 * 2 ^ low f) → σ.at_most a (2 * 2 ^ low f)) → (v w : Float) → OnGrid f v → OnGrid f w
      → ρ.at_most (mid_num f v w) (mid_den v w) → σ.at_most (mid_num f v w) (mid_den v w)
  go-most ρ σ l l' k v w g o h =
      l'.higher (count v w g o) (2 * 2 ^ low f) (mid_num f v w) (mid_den v w) (half_pos f) (mid-pos v w) (le_of_eq (sym (mid v w g o)))
      (k (count v w g o) (l.higher (mid_num f v w) (mid_den v w) (count v w g o) (2 * 2 ^ low f) (mid-pos v w) (half_pos f) (le_of_eq (mid v w g o)) h))

  go-least : (ρ σ : Real) → Lawful ρ → Lawful σ → ((a : ℕ) → ρ.at_least a (2 * 2 ^ low f) → σ.at_least a (2 * 2 ^ low f)) → (v w : Float) → OnGrid f v
      → OnGrid f w → ρ.at_least (mid_num f v w) (mid_den v w) → σ.at_least (mid_num f v w) (mid_den v w)
  go-least ρ σ l l' k v w g o h =
      l'.lower (mid_num f v w) (mid_den v w) (count v w g o) (2 * 2 ^ low f) (mid-pos v w) (half_pos f) (le_of_eq (mid v w g o))
      (k (count v w g o) (l.lower (count v w g o) (2 * 2 ^ low f) (mid_num f v w) (mid_den v w) (half_pos f) (mid-pos v w) (le_of_eq (sym (mid v w g o))) h))

  pub nearest-same : (r : Float) → Nearest f ρ s r → Nearest f σ s r
  nearest-same r n =
      let g = on-grid f s r n.held n.sign in
      record {
        held = n.held;
        sign = n.sign;
        from_above = λ w t h l. go-most ρ σ law law' most r w g (on-grid f s w t h) (n.from_above w t h l);
        from_below = λ w t h l. go-least ρ σ law law' least r w g (on-grid f s w t h) (n.from_below w t h l);
        tie_above = λ w t h l m. n.tie_above w t h l (go-least σ ρ law' law least-back r w g (on-grid f s w t h) m);
        tie_below = λ w t h l m. n.tie_below w t h l (go-most σ ρ law' law most-back r w g (on-grid f s w t h) m);
      }

-- ---- √(p / d) and the fraction that `root_of` rounds
module _ (p d G A : ℕ) (D : 0 < d) (E : 0 < G) (sd : Sides A (p * d * (G * G))) where
  scaled : (y : ℕ) → y * d * (y * d) ≡ y * y * d * d
  scaled y = omega arith

  spread : p * d * (G * G) ≡ p * (G * G) * d
  spread = omega arith

  regroup : (y : ℕ) → y * (2 * (d * G)) ≡ 2 * (y * d) * G
  regroup y = omega arith

  a-most : (y : ℕ) → (fraction A (2 * (d * G))).at_most y G → (root p d).at_most y G
  a-most y h = le_of_mul-le-mul_right (le_trans (le_of_eq (sym spread))
      (le_trans (sd.most-back (y * d) (le_of_mul-le-mul_right (le_trans h (le_of_eq (regroup y))) E)) (le_of_eq (scaled y)))) D

  a-most-back : (y : ℕ) → (root p d).at_most y G → (fraction A (2 * (d * G))).at_most y G
  a-most-back y h = le_trans (mul-le-mul_right G (sd.most (y * d) (le_trans (le_of_eq spread) (le_trans (mul-le-mul_right d h) (le_of_eq (sym (scaled y)))))))
      (le_of_eq (sym (regroup y)))

  a-least : (y : ℕ) → (fraction A (2 * (d * G))).at_least y G → (root p d).at_least y G
  a-least y h = le_of_mul-le-mul_right (le_trans (le_of_eq (sym (scaled y)))
      (le_trans (sd.least-back (y * d) (le_of_mul-le-mul_right (le_trans (le_of_eq (sym (regroup y))) h) E)) (le_of_eq spread))) D

  a-least-back : (y : ℕ) → (root p d).at_least y G → (fraction A (2 * (d * G))).at_least y G
  a-least-back y h = le_trans (le_of_eq (regroup y)) (mul-le-mul_right G
      (sd.least (y * d) (le_trans (le_of_eq (scaled y)) (le_trans (mul-le-mul_right d h) (le_of_eq (sym spread))))))

rounded : (f : Format) (p d G : ℕ) → 0 < d → G ≡ 2 * 2 ^ low f
    → Nearest f (root p d) false (round f false (with_sticky (isqrt (size (p * d * (G * G))) (p * d * (G * G))) (p * d * (G * G))) (2 * (d * G)))
rounded f p d G D e =
    let N = p * d * (G * G) in
    let A = with_sticky (isqrt (size N) N) N in
    let E : 0 < G = subst (λ (x : ℕ). 0 < x) (sym e) (mul-pos (pow_pos 1) (pow_pos (low f))) in
    let sd : Sides A N = sides (isqrt (size N) N) N (whole-root N) in
    nearest-same f false (fraction A (2 * (d * G))) (root p d) (fraction-lawful A (2 * (d * G))) (root-lawful p d)
    (subst (λ (g : ℕ). (y : ℕ) → (fraction A (2 * (d * G))).at_most y g → (root p d).at_most y g) e (a-most p d G A D E sd))
    (subst (λ (g : ℕ). (y : ℕ) → (root p d).at_most y g → (fraction A (2 * (d * G))).at_most y g) e (a-most-back p d G A D E sd))
    (subst (λ (g : ℕ). (y : ℕ) → (fraction A (2 * (d * G))).at_least y g → (root p d).at_least y g) e (a-least p d G A D E sd))
    (subst (λ (g : ℕ). (y : ℕ) → (root p d).at_least y g → (fraction A (2 * (d * G))).at_least y g) e (a-least-back p d G A D E sd))
    (round f false A (2 * (d * G))) (round-nearest f false A (2 * (d * G)) (mul-pos (pow_pos 1) (mul-pos D E)))

root_of-nearest : (f : Format) (p d : ℕ) → 0 < d → Nearest f (root p d) false (root_of f p d)
unfolding root_of
root_of-nearest f p d D = rounded f p d (2 ^ suc (low f)) D (pow-succ' 2 (low f))

pub sqrt_of-correct : (f : Format) (x : Float) → Sqrt f x (sqrt_of f x)
unfolding sqrt_of
sqrt_of-correct f nan = refl
sqrt_of-correct f (inf true) = refl
sqrt_of-correct f (inf false) = refl
sqrt_of-correct f (fin true zero e) = refl
sqrt_of-correct f (fin false zero e) = refl
sqrt_of-correct f (fin true (suc m) e) = refl
sqrt_of-correct f (fin false (suc m) e) = root_of-nearest f (suc m * up e) (down e) (down_pos e)
