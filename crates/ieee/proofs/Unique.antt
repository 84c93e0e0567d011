-- At most one value is nearest (`nearest-unique`), so `Sqrt` determines the root (`sqrt-unique`).
use mathlib.Core.Path.{◌≡◌, sym, ap, ◌∙◌, subst}
use mathlib.Core.Logic.{inl, inr}
use mathlib.Core.Bool.{Bool, true, false, cond}
use Prim.Native.Nat.{ℕ, zero, suc, ◌+◌, ◌-◌, ◌*◌, ◌/◌, ◌^◌, ◌≤◌, ◌<◌}
use native.Mathlib.Nat.{le_refl, le_trans, le_of_eq, le_of_lt, lt_of_lt_of_le, lt_of_le_of_lt, not-le_of_lt, eq-or-lt_of_le, add_comm, mul_assoc, mul_comm}
use native.Mathlib.Nat.{mul-pos, mul-le-mul_left, mul-lt-mul_of_pos_right, lt_of_mul-lt-mul_right, eq_of_mul-eq-mul_right, mul-div_cancel, mul-mul-mul_comm}
use native.Mathlib.Nat.{pow-succ'}
use native.Mathlib.Omega.{arith}
use lib.IntN.{ℤ}
use lib.Dec.{T}
use lib.Pow.{pow-add, pow_pos, pow-lt}
use lib.Ieee.{Float, nan, inf, fin, Format, prec, emax, low, up, down, size, hid, top, odd, round, fits, of_bits, to_bits}
use lib.Ieee.Digits.{back}
use lib.Ieee.Bits.{of_bits-to_bits}
use lib.Ieee.Exact.{odd_sign}
use lib.Ieee.Fits.{two, two-le_pos, odd-fits, down_pos}
use lib.Ieee.Positive.{through}
use Rattle.ieee.specs.Nearest.{Real, fraction, root, num, den, HasSign, Smaller, mid_num, mid_den, Even, Nearest}
use Rattle.ieee.specs.Sqrt.{Sqrt}
use Rattle.ieee.proofs.Fractions.{round-nearest}
use Rattle.ieee.proofs.Roots.{sq-lt}
use Rattle.ieee.proofs.Grid.{mid-pos, on-grid, fits_below, den_pos, overflow, Leading, next_up, or_lt, order, middle, signed, counted}

-- ---- what else any real number satisfies: no fraction above it is below one under it
abbrev pub Cut : Real → Type 0
Cut ρ = (a b c d : ℕ) → 0 < b → 0 < d → ρ.at_least c d → ρ.at_most a b → c * b ≤ a * d

pub fraction-cut : (p q : ℕ) → 0 < q → Cut (fraction p q)
fraction-cut p q Q a b c d B D l m = through c p a d q b Q l m

pub sq-le-back : (x y : ℕ) → x * x ≤ y * y → x ≤ y
sq-le-back x y h = elim (or_lt x y) [
  | inl le ↦ elim (eq-or-lt_of_le le) [
    | inl e ↦ le_of_eq (sym e)
    | inr l ↦ absurd (not-le_of_lt (sq-lt y x l) h)
  ]
  | inr l ↦ le_of_lt l
]

pub root-cut : (p q : ℕ) → 0 < q → Cut (root p q)
root-cut p q Q a b c d B D l m =
    sq-le-back (c * b) (a * d)
    (le_trans (le_of_eq (mul-mul-mul_comm c b c b))
    (le_trans (through (c * c) p (a * a) (d * d) q (b * b) Q l m) (le_of_eq (mul-mul-mul_comm a a d d))))

-- ---- a significand that is even, and the next number up
module _ (p c k c' k' h h' : ℕ) (P : 2 ≤ p) (C : c < 2 ^ p) (C' : c' < 2 ^ p) (lead : Leading p c k) (e : c ≡ 2 * h) (e' : c' ≡ 2 * h') where
  pub not-next : suc c * 2 ^ k ≡ c' * 2 ^ k' → ⊥
  not-next x = elim (or_lt k' k) [
    | inl le ↦
        (omega (
          arith,
          mul_assoc 2 h' (2 ^ (k' - k)),
          eq_of_mul-eq-mul_right (2 ^ k) (pow_pos k) (suc c) (2 * h' * 2 ^ (k' - k))
              (x ∙ ap (λ (z : ℕ). z * 2 ^ k') e' ∙ ap (λ (z : ℕ). 2 * h' * z) (ap (λ (z : ℕ). 2 ^ z) (sym (back k' k le)) ∙ pow-add 2 (k' - k) k)
              ∙ sym (mul_assoc (2 * h') (2 ^ (k' - k)) (2 ^ k))),
        ))
    | inr lt ↦
        elim lead [
          | inl z ↦ absurd (omega arith)
          | inr b ↦
              (omega (
                arith,
                mul-le-mul_left (suc c) (pow_pos (k - suc k')),
                pow_pos (k - suc k'),
                eq_of_mul-eq-mul_right (2 ^ k') (pow_pos k') (suc c * (2 * 2 ^ (k - suc k'))) c'
                    (mul_assoc (suc c) (2 * 2 ^ (k - suc k')) (2 ^ k')
                    ∙ ap (λ (z : ℕ). suc c * z) (ap (λ (z : ℕ). z * 2 ^ k') (sym (pow-succ' 2 (k - suc k'))) ∙ sym (pow-add 2 (suc (k - suc k')) k')
                    ∙ ap (λ (z : ℕ). 2 ^ z) (omega arith)) ∙ x),
                lt_of_lt_of_le C' (le_of_eq (ap (λ (z : ℕ). 2 ^ z) (sym (omega arith)) ∙ pow-succ' 2 (p - 1))),
              ))
        ]
  ]

-- ---- fractions, in smallest values
pub back-order : (a d b c L R W : ℕ) → 0 < d → 0 < c → a * L ≡ R * d → b * L ≡ W * c → R < W → a * c < b * d
back-order a d b c L R W D C x y h =
    lt_of_mul-lt-mul_right L (omega (arith, ap (λ (z : ℕ). z * c) x, ap (λ (z : ℕ). z * d) y, mul-lt-mul_of_pos_right h (mul-pos D C)))

module _ (f : Format) (s : Bool) (ρ : Real) (cut : Cut ρ) (r r' : Float) (n : Nearest f ρ s r) (n' : Nearest f ρ s r') where
  swap-num : mid_num f r' r ≡ mid_num f r r'
  swap-num = add_comm (num f r' * den r) (num f r * den r')

  swap-den : mid_den r' r ≡ mid_den r r'
  swap-den = ap (λ (z : ℕ). 2 * z) (mul_comm (den r') (den r))

  pub no-two : Smaller f r r' → ⊥
  no-two lt =
      let L = 2 ^ low f in
      let most = n.from_above r' n'.held n'.sign lt in
      let least' = n'.from_below r n.held n.sign lt in
      let least = subst (λ (z : ℕ). ρ.at_least (mid_num f r r') z) swap-den (subst (λ (z : ℕ). ρ.at_least z (mid_den r' r)) swap-num least') in
      let most' = subst (λ (z : ℕ). ρ.at_most z (mid_den r' r)) (sym swap-num) (subst (λ (z : ℕ). ρ.at_most (mid_num f r r') z) (sym swap-den) most) in
      let e : Even f r = n.tie_above r' n'.held n'.sign lt least in
      let e' : Even f r' = n'.tie_below r n.held n.sign lt most' in
      let R = e.c * 2 ^ e.k in
      let R' = e'.c * 2 ^ e'.k in
      let P = two-le_pos (prec f) (two f) in
      let up = next_up (prec f) e.c e.k e'.c e'.k P e.leading e'.digits
      (order (num f r) (den r) (num f r') (den r') L R R' (pow_pos (low f)) e.value e'.value lt) in
      let W = suc e.c * 2 ^ e.k in
      let next : W ≤ R' = omega arith in
      elim (eq-or-lt_of_le next) [
        | inl same ↦ not-next (prec f) e.c e.k e'.c e'.k e.half e'.half (two f) e.digits e'.digits e.leading e.even e'.even
            same
        | inr gap ↦
            let o = on-grid f s r' n'.held n'.sign in
            let reach : R' ≤ overflow f = le_trans (le_of_eq (eq_of_mul-eq-mul_right (den r') (den_pos r') R' (o.n * 2 ^ o.j) (sym e'.value ∙ o.value)))
            o.reach in
            let w = odd (suc (prec f)) s (suc e.c) e.k (low f) in
            let v = odd_sign (suc (prec f)) s (suc e.c) e.k (low f) in
            let wv : num f w * L ≡ W * den w = counted f s w W L v in
            let held : T (fits f w) = odd-fits f (suc (prec f)) s (suc e.c) e.k (lt_of_le_of_lt e.digits (pow-lt (le_refl (suc (prec f))))) e.digits
            (lt_of_lt_of_le gap reach) in
            let above : Smaller f r w = back-order (num f r) (den r) (num f w) (den w) L R W (den_pos r) (den_pos w) e.value wv
            (omega (arith, pow_pos e.k)) in
            let near = n.from_above w held (signed s w W L v) above in
            let c = cut (mid_num f r w) (mid_den r w) (mid_num f r r') (mid_den r r') (mid-pos r w) (mid-pos r r') least near in
            not-le_of_lt
            (back-order (mid_num f r w) (mid_den r w) (mid_num f r r') (mid_den r r') (2 * L) (R + W) (R + R') (mid-pos r w) (mid-pos r r')
            (middle (num f r) (den r) (num f w) (den w) L R W e.value wv) (middle (num f r) (den r) (num f r') (den r') L R R' e.value e'.value)
            (omega arith))
            c
      ]

-- ---- two values of one size and sign are one value
to_bits_is : (f : Format) (s : Bool) (m : ℕ) (e : ℤ) (n : ℕ) → m * up e * 2 ^ low f ≡ n * down e
    → to_bits f (fin s m e) ≡ cond s (top f) 0 + (size n - prec f) * hid f + n / 2 ^ (size n - prec f)
unfolding to_bits
to_bits_is f s m e n p = ap (λ (x : ℕ). cond s (top f) 0 + (size x - prec f) * hid f + x / 2 ^ (size x - prec f))
    (ap (λ (x : ℕ). x / down e) p ∙ mul-div_cancel n (down_pos e))

no-inf : (a b : ℕ) → a < b → a * 1 ≡ b → ⊥
no-inf a b h e = omega arith

across : (a d b c L n : ℕ) → 0 < d → a * L ≡ n * d → a * c ≡ b * d → b * L ≡ n * c
across a d b c L n D x y = eq_of_mul-eq-mul_right d D (b * L) (n * c) (omega (arith, ap (λ (z : ℕ). z * c) x, ap (λ (z : ℕ). z * L) y))

pub same_size : (f : Format) (s : Bool) (v w : Float) → T (fits f v) → T (fits f w) → HasSign s v → HasSign s w → num f v * den w ≡ num f w * den v → v ≡ w
same_size f s nan w h g a b e = absurd a
same_size f s (inf t) nan h g a b e = absurd b
same_size f s (inf t) (inf u) h g a b e = ap inf (a ∙ sym b)
same_size f s (inf t) (fin u n d) h g a b e = absurd (no-inf (n * up d) (2 ^ suc (emax f) * down d) (fits_below f u n d g) (sym e))
same_size f s (fin t m c) nan h g a b e = absurd b
same_size f s (fin t m c) (inf u) h g a b e = absurd (no-inf (m * up c) (2 ^ suc (emax f) * down c) (fits_below f t m c h) e)
same_size f s (fin t m c) (fin u n d) h g a b e =
    let o = on-grid f s (fin t m c) h a in
    let N = o.n * 2 ^ o.j in
    sym (of_bits-to_bits f (fin t m c) h)
    ∙ ap (of_bits f)
    (to_bits_is f t m c N o.value
    ∙ ap (λ (x : Bool). cond x (top f) 0 + (size N - prec f) * hid f + N / 2 ^ (size N - prec f)) (a ∙ sym b)
    ∙ sym (to_bits_is f u n d N (across (m * up c) (down c) (n * up d) (down d) (2 ^ low f) N (down_pos c) o.value e)))
    ∙ of_bits-to_bits f (fin u n d) g

-- ---- the laws
pub nearest-unique : (f : Format) (s : Bool) (ρ : Real) → Cut ρ → (r r' : Float) → Nearest f ρ s r → Nearest f ρ s r' → r ≡ r'
nearest-unique f s ρ cut r r' n n' = elim (or_lt (num f r * den r') (num f r' * den r)) [
  | inl le ↦ elim (eq-or-lt_of_le le) [
    | inl e ↦ same_size f s r r' n.held n'.held n.sign n'.sign (sym e)
    | inr l ↦ absurd (no-two f s ρ cut r' r n' n l)
  ]
  | inr l ↦ absurd (no-two f s ρ cut r r' n n' l)
]

pub sqrt-unique : (f : Format) (x r r' : Float) → Sqrt f x r → Sqrt f x r' → r ≡ r'
sqrt-unique f nan r r' h g = h ∙ sym g
sqrt-unique f (inf true) r r' h g = h ∙ sym g
sqrt-unique f (inf false) r r' h g = h ∙ sym g
sqrt-unique f (fin true zero e) r r' h g = h ∙ sym g
sqrt-unique f (fin false zero e) r r' h g = h ∙ sym g
sqrt-unique f (fin true (suc m) e) r r' h g = h ∙ sym g
sqrt-unique f (fin false (suc m) e) r r' h g = nearest-unique f false (root (suc m * up e) (down e)) (root-cut (suc m * up e) (down e) (down_pos e)) r r' h g

-- what is nearest to a fraction is what `round` gives
pub nearest-is-round : (f : Format) (s : Bool) (a b : ℕ) (r : Float) → 0 < b → Nearest f (fraction a b) s r → r ≡ round f s a b
nearest-is-round f s a b r B n = nearest-unique f s (fraction a b) (fraction-cut a b B) r (round f s a b) n (round-nearest f s a b B)
