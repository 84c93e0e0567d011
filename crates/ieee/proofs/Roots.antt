-- √(p / d) as a real number, and how far q * 2 ^ k is from it, by squares.
use mathlib.Core.Path.{◌≡◌, sym, ap, ◌∙◌, subst}
use Prim.Native.Nat.{ℕ, zero, suc, ◌+◌, ◌-◌, ◌*◌, ◌^◌, ◌≤◌, ◌<◌}
use native.Mathlib.Nat.{le_refl, le_trans, le_of_eq, le_of_lt, lt_of_lt_of_le, lt_of_le_of_lt, lt_irrefl, not-le_of_lt, mul_assoc, mul_comm, mul-pos}
use native.Mathlib.Nat.{mul-le-mul, mul-le-mul_right, mul-lt-mul_of_pos_right, le_of_mul-le-mul_right, mul-mul-mul_comm}
use native.Mathlib.Omega.{arith}
use lib.Pow.{pow-add, pow_pos}
use Rattle.ieee.specs.Nearest.{root}
use Rattle.ieee.proofs.Grid.{Lawful, Close}

-- ---- the order with fractions is that of the fractions
squares : (a b c d : ℕ) → a * d ≤ c * b → a * a * (d * d) ≤ c * c * (b * b)
squares a b c d h = le_trans (le_of_eq (mul-mul-mul_comm a a d d)) (le_trans (mul-le-mul h h) (le_of_eq (mul-mul-mul_comm c b c b)))

swap : (x y z : ℕ) → x * y * z ≡ x * z * y
swap x y z = mul_assoc x y z ∙ ap (λ (w : ℕ). x * w) (mul_comm y z) ∙ sym (mul_assoc x z y)

pub root-lawful : (p q : ℕ) → Lawful (root p q)
root-lawful p q = record {
  lower = λ a b c d B D h m.
      le_of_mul-le-mul_right
      (le_trans (le_of_eq (swap (a * a) q (d * d)))
      (le_trans (mul-le-mul_right q (squares a b c d h))
      (le_trans (le_of_eq (swap (c * c) (b * b) q))
      (le_trans (mul-le-mul_right (b * b) m) (le_of_eq (swap p (d * d) (b * b)))))))
      (mul-pos D D);
  higher = λ a b c d B D h m.
      le_of_mul-le-mul_right
      (le_trans (le_of_eq (swap p (d * d) (b * b)))
      (le_trans (mul-le-mul_right (d * d) m)
      (le_trans (le_of_eq (swap (a * a) q (d * d)))
      (le_trans (mul-le-mul_right q (squares a b c d h)) (le_of_eq (swap (c * c) (b * b) q))))))
      (mul-pos B B);
}

-- ---- squares against S * u * u
module _ (S X u a : ℕ) where
  pub big : S ≤ X * X → X * u ≤ a → S * (u * u) ≤ a * a
  big h g = le_trans (mul-le-mul_right (u * u) h) (le_trans (le_of_eq (mul-mul-mul_comm X X u u)) (mul-le-mul g g))

  pub big_lt : S < X * X → X * u ≤ a → 0 < u → S * (u * u) < a * a
  big_lt h g z = lt_of_lt_of_le (mul-lt-mul_of_pos_right h (mul-pos z z)) (le_trans (le_of_eq (mul-mul-mul_comm X X u u)) (mul-le-mul g g))

  pub small-lt : X * X < S → a ≤ X * u → 0 < u → a * a < S * (u * u)
  small-lt h g z = lt_of_le_of_lt (le_trans (mul-le-mul g g) (le_of_eq (mul-mul-mul_comm X u X u))) (mul-lt-mul_of_pos_right h (mul-pos z z))

pub sq-lt : (a b : ℕ) → a < b → a * a < b * b
sq-lt a b h = lt_of_le_of_lt (mul-le-mul (le_refl a) (le_of_lt h)) (mul-lt-mul_of_pos_right h (omega arith))

-- ---- q is the whole number nearest to √M: what that says of the halves on either side
up-sq : (q M : ℕ) → M ≤ q * q + q → 4 * M < (q + q + 1) * (q + q + 1)
up-sq q M h = omega arith

row_up : (q u a : ℕ) → q * u + q * u + u ≤ a → (q + q + 1) * u ≤ a
row_up q u a h = omega arith

module _ (p d n l M q k e : ℕ) (D : 0 < d) (x : p * 2 ^ l ≡ n * d) (y : M * 2 ^ (k + k) ≡ n * 2 ^ l) (lo : q * q < M + q) (hi : M ≤ q * q + q) (low : e * e ≤ M)
    (Q : 0 < q) where
  eq : p * (2 * 2 ^ l * (2 * 2 ^ l)) ≡ 4 * M * (2 ^ k * 2 ^ k) * d
  eq =
      let t = ap (λ (z : ℕ). M * z) (sym (pow-add 2 k k)) ∙ y in
      omega (arith, ap (λ (z : ℕ). z * (4 * 2 ^ l)) x, ap (λ (z : ℕ). z * (4 * d)) t)

  most : (a : ℕ) → 4 * M * (2 ^ k * 2 ^ k) ≤ a * a → (root p d).at_most a (2 * 2 ^ l)
  most a h = le_trans (le_of_eq eq) (mul-le-mul_right d h)

  least : (a : ℕ) → a * a ≤ 4 * M * (2 ^ k * 2 ^ k) → (root p d).at_least a (2 * 2 ^ l)
  least a h = le_trans (mul-le-mul_right d h) (le_of_eq (sym eq))

  not-most : (a : ℕ) → a * a < 4 * M * (2 ^ k * 2 ^ k) → (root p d).at_most a (2 * 2 ^ l) → ⊥
  not-most a h m = not-le_of_lt h (le_of_mul-le-mul_right (le_trans (le_of_eq (sym eq)) m) D)

  not_least : (a : ℕ) → 4 * M * (2 ^ k * 2 ^ k) < a * a → (root p d).at_least a (2 * 2 ^ l) → ⊥
  not_least a h m = not-le_of_lt h (le_of_mul-le-mul_right (le_trans m (le_of_eq eq)) D)

  -- the root is never half way between two values
  pub root-close : (prec O : ℕ) → e ≡ 2 ^ (prec - 1) → (Ev : Type 0) → Close prec l O (root p d) q k Ev
  root-close prec O E Ev = record {
    above = λ _ a h. most a (big (4 * M) (q + q + 1) (2 ^ k) a (le_of_lt (up-sq q M hi)) (row_up q (2 ^ k) a h));
    below = λ a h. least a (le_of_lt (lower a h));
    tie-above = λ _ a h m. absurd (not_least a (big_lt (4 * M) (q + q + 1) (2 ^ k) a (up-sq q M hi) (row_up q (2 ^ k) a h) (pow_pos k)) m);
    tie-below = λ a h m. absurd (not-most a (lower a h) m);
    edge = λ z _ a h. least a (le_of_lt (edged z a h));
    tie-edge = λ z _ a h m. absurd (not-most a (edged z a h) m);
  }
    where
      lower : (a : ℕ) → a + 2 ^ k ≤ q * 2 ^ k + q * 2 ^ k → a * a < 4 * M * (2 ^ k * 2 ^ k)
      lower a h = go q lo Q h
        where
          go : (q : ℕ) → q * q < M + q → 0 < q → a + 2 ^ k ≤ q * 2 ^ k + q * 2 ^ k → a * a < 4 * M * (2 ^ k * 2 ^ k)
          go zero lo Q h = absurd (lt_irrefl 0 Q)
          go (suc j) lo Q h = small-lt (4 * M) (j + j + 1) (2 ^ k) a (omega arith) (omega arith) (pow_pos k)

      edged : q ≡ 2 ^ (prec - 1) → (a : ℕ) → a < q * 2 ^ k + q * 2 ^ k → a * a < 4 * M * (2 ^ k * 2 ^ k)
      edged z a h =
          let s : q * q ≤ M = subst (λ (w : ℕ). w * w ≤ M) (E ∙ sym z) low in
          lt_of_lt_of_le (sq-lt a ((q + q) * 2 ^ k) (omega arith))
          (le_trans (le_of_eq (mul-mul-mul_comm (q + q) (2 ^ k) (q + q) (2 ^ k))) (mul-le-mul_right (2 ^ k * 2 ^ k) (omega arith)))
