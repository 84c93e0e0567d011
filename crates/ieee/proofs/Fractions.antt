-- `lib.Ieee`'s `round` is rounding to nearest, ties to even, in the sense of `specs/Nearest.antt`: for every format, sign and fraction (`round-nearest`).
--
use mathlib.Core.Path.{◌≡◌, refl, sym, ap, ◌∙◌, subst}
use mathlib.Core.Logic.{◌⊎◌, inl, inr}
use mathlib.Core.Bool.{Bool, true, false, not, cond}
use Prim.Native.Nat.{ℕ, zero, suc, ◌+◌, ◌-◌, ◌*◌, ◌/◌, ◌%◌, ◌^◌, ◌≤◌, ◌<◌, compare, Ordering}
use native.Mathlib.Nat.{le_refl, le_trans, le_of_eq, le_of_lt, le_antisymm, lt_of_lt_of_le, lt_of_le_of_lt, lt_irrefl, not-le_of_lt, eq-or-lt_of_le, mul_assoc}
use native.Mathlib.Nat.{mul_comm, mul-one, mul-pos, mul-le-mul_left, mul-le-mul_right, mul-lt-mul_of_pos_right, le_of_mul-le-mul_right, div-add-mod', mod-lt}
use native.Mathlib.Nat.{le-div_iff_mul-le, div-div-eq-div-mul, pow-succ', zero-lt-suc}
use native.Mathlib.Omega.{arith}
use lib.Dec.{T, is_le, compare_is_eq, ltb, eqb, leb→le, nleb→lt, eqb→eq, eqb_refl, ltb→lt, nltb→le}
use lib.Arith.{lt_of_le-ne}
use lib.Pow.{pow-add, pow_pos, pow_mono, pow-lt}
use lib.Ieee.{Float, inf, Format, prec, emax, low, nearest, odd, units, round}
use lib.Ieee.Digits.{size_reaches}
use lib.Ieee.Fits.{two, reach, two-le_pos, nearest-le, kept-lt, odd-fits, inf-fits, round_is}
use lib.Ieee.Exact.{odd_sign}
use lib.Ieee.Nearest.{closest, nearest-ge}
use lib.Ieee.Order.{drop, kept}
use lib.Ieee.Positive.{through}
use Rattle.ieee.specs.Nearest.{fraction, num, den, Even, Nearest}
use Rattle.ieee.proofs.Grid.{Lawful, Close, Leading, overflow, signed, counted, nearest-of, or_lt}

pub fraction-lawful : (p q : ℕ) → Lawful (fraction p q)
fraction-lawful p q = record {
  lower = λ a b c d B D h m. through a c p b d q D h m;
  higher = λ a b c d B D h m. through p a c q b d B m h;
}

-- ---- a whole number nearest to n / u

pub record Half (q u n : ℕ) : Type 0 where
  pub lo : q * u + q * u ≤ n + n + u
  pub hi : n + n ≤ q * u + q * u + u
  pub tie-lo : n + n + u ≤ q * u + q * u → q % 2 ≡ 0
  pub tie-hi : q * u + q * u + u ≤ n + n → q % 2 ≡ 0

abbrev pub Cmp : Ordering → ℕ → ℕ → Type 0
Cmp Ordering.lt a b = a < b
Cmp Ordering.eq a b = a ≡ b
Cmp Ordering.gt a b = b < a

pub cmp : (a b : ℕ) → Cmp (compare a b) a b
cmp a b = go (compare a b) (leb→le a b) (nleb→lt a b) (eqb→eq a b) (λ (e : a ≡ b). subst (λ (x : ℕ). T (eqb a x)) e (eqb_refl a))
  where
    go : (o : Ordering) → (T (is_le o) → a ≤ b) → (T (not (is_le o)) → b < a) → (T (compare_is_eq o) → a ≡ b) → (a ≡ b → T (compare_is_eq o)) → Cmp o a b
    go Ordering.lt h k e n = lt_of_le-ne (h tt) n
    go Ordering.eq h k e n = e tt
    go Ordering.gt h k e n = k tt

down-half : (w r u : ℕ) → r * 2 < u → Half w u (w * u + r)
down-half w r u h = record { lo = omega arith; hi = omega arith; tie-lo = λ g. omega arith; tie-hi = λ g. omega arith }

up-half : (w r u : ℕ) → u < r * 2 → r < u → Half (suc w) u (w * u + r)
up-half w r u h l = record { lo = omega arith; hi = omega arith; tie-lo = λ g. omega arith; tie-hi = λ g. omega arith }

tie-half : (w r u b : ℕ) → w % 2 ≡ b → r * 2 ≡ u → Half (w + b) u (w * u + r)
tie-half w r u zero e h = record { lo = omega arith; hi = omega arith; tie-lo = λ g. omega arith; tie-hi = λ g. omega arith }
tie-half w r u (suc zero) e h = record { lo = omega arith; hi = omega arith; tie-lo = λ g. omega arith; tie-hi = λ g. omega arith }
tie-half w r u (suc (suc b)) e h = absurd (omega arith)

half_of : (w r u : ℕ) (o : Ordering) → Cmp o (r * 2) u → r < u → Half (nearest w o) u (w * u + r)
half_of w r u Ordering.lt c l = down-half w r u c
half_of w r u Ordering.eq c l = tie-half w r u (w % 2) refl c
half_of w r u Ordering.gt c l = up-half w r u c l

pub closest-half : (n u : ℕ) → 0 < u → Half (closest n u) u n
closest-half n u z = subst (λ (x : ℕ). Half (closest n u) u x) (div-add-mod' n u)
    (half_of (n / u) (n % u) u (compare (n % u * 2) u) (cmp (n % u * 2) u) (mod-lt n z))

-- ---- the digits that `round` keeps

-- where digits are dropped, n / den is 2 ^ (p - 1) units at least
full : (p n den : ℕ) → 0 < p → 0 < den → 0 < drop p n den → 2 ^ (p - 1) * (den * 2 ^ drop p n den) ≤ n
full p n den P D K =
    let k = drop p n den in
    let a : 2 ^ (p - 1) * 2 ^ k ≤ n / den = le_trans (le_of_eq (sym (pow-add 2 (p - 1) k)))
    (size_reaches (n / den) (p - 1 + k) (omega arith)) in
    le_trans (le_of_eq (ap (λ (x : ℕ). 2 ^ (p - 1) * x) (mul_comm den (2 ^ k)) ∙ sym (mul_assoc (2 ^ (p - 1)) (2 ^ k) den))) ((le-div_iff_mul-le D).0 a)

zero-or-pos : (k : ℕ) → (k ≡ 0) ⊎ (0 < k)
zero-or-pos zero = inl refl
zero-or-pos (suc k) = inr (zero-lt-suc k)

leads : (p n den : ℕ) → 0 < p → 0 < den → Leading p (kept p n den) (drop p n den)
leads p n den P D =
    let k = drop p n den in
    let u = den * 2 ^ k in
    elim (zero-or-pos k) [
      | inl z ↦ inl z
      | inr h ↦ inr (le_trans ((le-div_iff_mul-le (mul-pos D (pow_pos k))).1 (full p n den P D h)) (nearest-ge (n / u) (compare (n % u * 2) u)))
    ]

kept-le : (p n den : ℕ) → kept p n den ≤ 2 ^ p
kept-le p n den =
    let k = drop p n den in
    let u = den * 2 ^ k in
    le_trans (nearest-le (n / u) (compare (n % u * 2) u)) (subst (λ (x : ℕ). x < 2 ^ p) (div-div-eq-div-mul n den (2 ^ k)) (kept-lt p (n / den)))

-- ---- an even number of units makes an even significand, 2 ^ p of them too

less_one : (p : ℕ) → 2 ≤ p → p - 1 < p
less_one p h = omega arith

carried : (p k : ℕ) → 2 ≤ p → 2 ^ p * 2 ^ k ≡ 2 ^ (p - 1) * 2 ^ suc k
carried p k h = sym (pow-add 2 p k) ∙ ap (λ (x : ℕ). 2 ^ x) (omega arith) ∙ pow-add 2 (p - 1) (suc k)

pub even-of : (f : Format) (r : Float) (q k : ℕ) → num f r * 2 ^ low f ≡ q * 2 ^ k * den r → q ≤ 2 ^ prec f → Leading (prec f) q k → q % 2 ≡ 0 → Even f r
even-of f r q k v m l e = elim (eq-or-lt_of_le m) [
  | inl t ↦ record {
    c = 2 ^ (prec f - 1);
    k = suc k;
    value = v ∙ ap (λ (x : ℕ). x * den r) (ap (λ (x : ℕ). x * 2 ^ k) t ∙ carried (prec f) k (two f));
    digits = pow-lt (less_one (prec f) (two f));
    leading = inr (le_refl (2 ^ (prec f - 1)));
    half = 2 ^ (prec f - 2);
    even = ap (λ (x : ℕ). 2 ^ x) (sym (omega (arith, two f))) ∙ pow-succ' 2 (prec f - 2);
  }
  | inr t ↦ record { c = q; k = k; value = v; digits = t; leading = l; half = q / 2; even = omega arith }
]

-- ---- how near the kept number is to the fraction a / b

twice-n : (a L : ℕ) → a * L + a * L ≡ a * (2 * L)
twice-n a L = omega arith

module _ (p l O a b q k : ℕ) (B : 0 < b) (half : Half q (b * 2 ^ k) (a * 2 ^ l)) (edge : q ≡ 2 ^ (p - 1) → 0 < k → q * (b * 2 ^ k) ≤ a * 2 ^ l) (Ev : Type 0)
    (ev : q % 2 ≡ 0 → Ev) where
  pub fraction-close : Close p l O (fraction a b) q k Ev
  fraction-close = record {
    above = λ _ x h. above q (2 ^ k) (a * 2 ^ l) (a * (2 * 2 ^ l)) x b (twice-n a (2 ^ l)) half.hi (mul-le-mul_right b h);
    below = λ x h. below q (2 ^ k) (a * 2 ^ l) (a * (2 * 2 ^ l)) x b (twice-n a (2 ^ l)) half.lo (mul-le-mul_right b h);
    tie-above = λ _ x h m. ev (half.tie-hi (omega (arith, twice-n a (2 ^ l), mul-le-mul_right b h)));
    tie-below = λ x h m. ev (half.tie-lo (omega (arith, twice-n a (2 ^ l), mul-le-mul_right b h)));
    edge = λ z K x h. omega (arith, twice-n a (2 ^ l), edge z K, mul-le-mul_right b (le_of_lt h));
    tie-edge = λ z K x h m. absurd (omega (arith, twice-n a (2 ^ l), edge z K, mul-lt-mul_of_pos_right h B));
  }
    where
      above : (q U n N x b : ℕ) → n + n ≡ N → n + n ≤ q * (b * U) + q * (b * U) + b * U → (q * U + q * U + U) * b ≤ x * b → N ≤ x * b
      above q U n N x b e h g = omega arith

      below : (q U n N x b : ℕ) → n + n ≡ N → q * (b * U) + q * (b * U) ≤ n + n + b * U → (x + U) * b ≤ (q * U + q * U) * b → x * b ≤ N
      below q U n N x b e h g = omega arith

-- ---- from 2 ^ (emax + 1) on: an infinity

-- `overflow` is 2 ^ prec * 2 ^ spare
abbrev pub spare : Format → ℕ
spare f = low f + suc (emax f) - prec f

pub spare-is : (f : Format) → 2 ^ prec f * 2 ^ spare f ≡ overflow f
spare-is f = sym (pow-add 2 (prec f) (spare f)) ∙ ap (λ (x : ℕ). 2 ^ x) (omega (arith, two f, reach f))

pub inf-value : (f : Format) (s : Bool) → num f (inf s) * 2 ^ low f ≡ 2 ^ prec f * 2 ^ spare f * den (inf s)
inf-value f s = mul_comm (2 ^ suc (emax f)) (2 ^ low f) ∙ sym (pow-add 2 (low f) (suc (emax f))) ∙ sym (spare-is f) ∙ sym (mul-one (2 ^ prec f * 2 ^ spare f))

inf-lead : (f : Format) → Leading (prec f) (2 ^ prec f) (spare f)
inf-lead f = inr (pow_mono (le_of_lt (less_one (prec f) (two f))))

pow_even : (p : ℕ) → 2 ≤ p → 2 ^ p % 2 ≡ 0
pow_even p h = go (2 ^ p) (2 ^ (p - 1)) (ap (λ (x : ℕ). 2 ^ x) (sym (omega arith)) ∙ pow-succ' 2 (p - 1))
  where
    go : (x y : ℕ) → x ≡ 2 * y → x % 2 ≡ 0
    go x y e = omega arith

inf-even : (f : Format) (s : Bool) → Even f (inf s)
inf-even f s = even-of f (inf s) (2 ^ prec f) (spare f) (inf-value f s) (le_refl (2 ^ prec f)) (inf-lead f) (pow_even (prec f) (two f))

-- q * 2 ^ k is `overflow` or more: either the kept number is 2 ^ prec at the highest exponent, or the fraction itself is `overflow` or more
over : (f : Format) (a b : ℕ) → 0 < b → overflow f ≤ kept (prec f) (a * 2 ^ low f) b * 2 ^ drop (prec f) (a * 2 ^ low f) b
    → (x : ℕ) → x + 2 ^ spare f ≤ 2 ^ prec f * 2 ^ spare f + 2 ^ prec f * 2 ^ spare f → x * b ≤ a * (2 * 2 ^ low f)
over f a b B h x g =
    let p = prec f in
    let n = a * 2 ^ low f in
    let k = drop p n b in
    let q = kept p n b in
    let j = spare f in
    let u : 2 ^ p * 2 ^ j ≤ q * 2 ^ k = le_trans (le_of_eq (spare-is f)) h in
    elim (or_lt j k) [
      | inl kj ↦
          elim (eq-or-lt_of_le kj) [
            | inl e ↦
                let u' : 2 ^ p * 2 ^ k ≤ q * 2 ^ k = subst (λ (z : ℕ). 2 ^ p * 2 ^ z ≤ q * 2 ^ k) (sym e) u in
                let m : q ≡ 2 ^ p = le_antisymm (kept-le p n b) (le_of_mul-le-mul_right u' (pow_pos k)) in
                (omega (
                  arith,
                  twice-n a (2 ^ low f),
                  subst (λ (z : ℕ). 2 ^ p * (b * 2 ^ z) + 2 ^ p * (b * 2 ^ z) ≤ n + n + b * 2 ^ z) e
                      (subst (λ (z : ℕ). z * (b * 2 ^ k) + z * (b * 2 ^ k) ≤ n + n + b * 2 ^ k) m (closest-half n (b * 2 ^ k) (mul-pos B (pow_pos k))).lo),
                  mul-le-mul_right b g,
                ))
            | inr l ↦ absurd (not-le_of_lt (lt_of_le_of_lt (mul-le-mul_right (2 ^ k) (kept-le p n b)) (below p k j l)) u)
          ]
      | inr jk ↦
          (omega (
            arith,
            twice-n a (2 ^ low f),
            le_trans (mul-le-mul_right b (le_trans (le_of_eq (carried p j (two f))) (mul-le (2 ^ (p - 1)) (suc j) k jk)))
                (le_trans (le_of_eq (omega arith)) (full p n b (two-le_pos p (two f)) B (omega arith))),
            mul-le-mul_right b g,
          ))
    ]
  where
    below : (p k j : ℕ) → k < j → 2 ^ p * 2 ^ k < 2 ^ p * 2 ^ j
    below p k j l = subst (λ (z : ℕ). 2 ^ p * 2 ^ k < z) (mul_comm (2 ^ j) (2 ^ p))
        (subst (λ (z : ℕ). z < 2 ^ j * 2 ^ p) (mul_comm (2 ^ k) (2 ^ p)) (mul-lt-mul_of_pos_right (pow-lt l) (pow_pos p)))

    mul-le : (c i k : ℕ) → i ≤ k → c * 2 ^ i ≤ c * 2 ^ k
    mul-le c i k l = mul-le-mul_left c (pow_mono l)

no_power : (p : ℕ) → 2 ≤ p → 2 ^ p ≡ 2 ^ (p - 1) → ⊥
no_power p h e = lt_irrefl (2 ^ (p - 1)) (lt_of_lt_of_le (pow-lt (less_one p h)) (le_of_eq e))

inf-close : (f : Format) (s : Bool) (a b : ℕ) → 0 < b → overflow f ≤ kept (prec f) (a * 2 ^ low f) b * 2 ^ drop (prec f) (a * 2 ^ low f) b
    → Close (prec f) (low f) (overflow f) (fraction a b) (2 ^ prec f) (spare f) (Even f (inf s))
inf-close f s a b B h = record {
  above = λ t x g. absurd (lt_irrefl (overflow f) (subst (λ (z : ℕ). z < overflow f) (spare-is f) t));
  below = λ x g. over f a b B h x g;
  tie-above = λ t x g m. inf-even f s;
  tie-below = λ x g m. inf-even f s;
  edge = λ z K x g. absurd (no_power (prec f) (two f) z);
  tie-edge = λ z K x g m. inf-even f s;
}

-- ---- the law

under-suc : (q p : ℕ) → q ≤ 2 ^ p → q < 2 ^ suc p
under-suc q p h = lt_of_le_of_lt h (pow-lt (le_refl (suc p)))

units-nearest : (f : Format) (s : Bool) (a b : ℕ) → 0 < b → Nearest f (fraction a b) s (units f s (kept (prec f) (a * 2 ^ low f) b)
    (drop (prec f) (a * 2 ^ low f) b))
unfolding units
units-nearest f s a b B = go (ltb (q * 2 ^ k) (overflow f)) (ltb→lt (q * 2 ^ k) (overflow f)) (nltb→le (q * 2 ^ k) (overflow f))
  where
    p : ℕ
    p = prec f

    n : ℕ
    n = a * 2 ^ low f

    q : ℕ
    q = kept (prec f) (a * 2 ^ low f) b

    k : ℕ
    k = drop (prec f) (a * 2 ^ low f) b

    P : 0 < prec f
    P = two-le_pos (prec f) (two f)

    edge : q ≡ 2 ^ (prec f - 1) → 0 < k → q * (b * 2 ^ k) ≤ a * 2 ^ low f
    edge z K = le_trans (le_of_eq (ap (λ (x : ℕ). x * (b * 2 ^ k)) z)) (full (prec f) (a * 2 ^ low f) b P B K)

    go : (t : Bool) → (T t → q * 2 ^ k < overflow f) → (T (not t) → overflow f ≤ q * 2 ^ k)
        → Nearest f (fraction a b) s (cond t (odd (suc (prec f)) s q k (low f)) (inf s))
    go true h g =
        let r = odd (suc (prec f)) s q k (low f) in
        let v = odd_sign (suc (prec f)) s q k (low f) in
        let c = counted f s r (q * 2 ^ k) (2 ^ low f) v in
        let l = leads (prec f) (a * 2 ^ low f) b P B in
        let m = kept-le (prec f) (a * 2 ^ low f) b in
        nearest-of f s (fraction a b) (fraction-lawful a b) r q k c l
        (fraction-close (prec f) (low f) (overflow f) a b q k B (closest-half (a * 2 ^ low f) (b * 2 ^ k) (mul-pos B (pow_pos k))) edge (Even f r)
        (even-of f r q k c m l))
        (odd-fits f (suc (prec f)) s q k (under-suc q (prec f) m) m (h tt)) (signed s r (q * 2 ^ k) (2 ^ low f) v)
    go false h g =
        nearest-of f s (fraction a b) (fraction-lawful a b) (inf s) (2 ^ prec f) (spare f) (inf-value f s) (inf-lead f) (inf-close f s a b B (g tt))
        (inf-fits f s) refl

-- `round` rounds to nearest, ties to even
pub round-nearest : (f : Format) (s : Bool) (a b : ℕ) → 0 < b → Nearest f (fraction a b) s (round f s a b)
round-nearest f s a b B = subst (λ (r : Float). Nearest f (fraction a b) s r) (sym (round_is f s a b)) (units-nearest f s a b B)
