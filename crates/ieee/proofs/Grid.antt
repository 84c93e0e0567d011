-- A value of a format is a whole number of the format's smallest values. In that count: what values there are near q * 2 ^ k, and that q * 2 ^ k is nearest
-- to a real number ρ that is at most half a unit of 2 ^ k away (`nearest-of`). For any format, sign and ρ.
use mathlib.Core.Path.{◌≡◌, sym, ap, ◌∙◌, subst}
use mathlib.Core.Logic.{◌⊎◌, inl, inr}
use mathlib.Core.Bool.{Bool, true, false, not, ◌&&◌}
use Prim.Native.Nat.{ℕ, zero, suc, ◌+◌, ◌-◌, ◌*◌, ◌%◌, ◌^◌, ◌≤◌, ◌<◌, zero-le}
use native.Mathlib.Nat.{le_trans, le_of_eq, le_of_lt, lt_of_lt_of_le, lt_of_le_of_lt, lt_of_not-le, le_of_suc-le-suc, lt_irrefl, eq-or-lt_of_le, mul-one}
use native.Mathlib.Nat.{one-mul, zero-mul, add_comm, mul_assoc, mul_right_comm, mul-pos, mul-le-mul_right, mul-lt-mul_of_pos_right, lt_of_mul-lt-mul_right}
use native.Mathlib.Nat.{eq_of_mul-eq-mul_right}
use native.Mathlib.Omega.{arith}
use lib.IntN.{ℤ, pos, negsuc}
use lib.Dec.{T, leb, ltb, eqb, leb→le, ltb→lt, nltb→le, eqb→eq}
use lib.Pow.{pow-add, pow_pos, pow_mono, pow-lt, shl_lt}
use lib.Ieee.{Float, nan, inf, fin, Format, prec, emax, low, up, down, fits}
use lib.Ieee.Digits.{back}
use lib.Ieee.Exact.{HasValue}
use lib.Ieee.Fits.{and_l, and_r, down_pos, two, two-le_pos}
use Rattle.ieee.specs.Nearest.{Real, num, den, HasSign, Smaller, mid_num, mid_den, Even, Nearest}

-- ---- how many smallest values a value is

-- 2 ^ (emax + 1) in smallest values: what an infinity counts as
abbrev pub overflow : Format → ℕ
overflow f = 2 ^ (low f + suc (emax f))

pub record OnGrid (f : Format) (w : Float) : Type 0 where
  pub n : ℕ
  pub j : ℕ
  pub value : num f w * 2 ^ low f ≡ n * 2 ^ j * den w
  pub digits : n < 2 ^ prec f
  pub reach : n * 2 ^ j ≤ overflow f

pub pow_le_back : (a l : ℕ) → 2 ^ a ≤ 2 ^ l → a ≤ l
pow_le_back a l h = le_of_suc-le-suc (lt_of_not-le (λ (g : suc l ≤ a). lt_irrefl (2 ^ l) (lt_of_lt_of_le (pow-lt g) h)))

-- m * 2 ^ e is m * 2 ^ j times 2 ^ -l
place : (m l : ℕ) (e : ℤ) → down e ≤ 2 ^ l → (j : ℕ) × (m * up e * 2 ^ l ≡ m * 2 ^ j * down e)
place m l (pos a) h = (a + l, mul_assoc m (2 ^ a) (2 ^ l) ∙ ap (λ (x : ℕ). m * x) (sym (pow-add 2 a l)) ∙ sym (mul-one (m * 2 ^ (a + l))))
place m l (negsuc a) h = (
  l - suc a,
  ap (λ (x : ℕ). x * 2 ^ l) (mul-one m)
      ∙ ap (λ (x : ℕ). m * x) (ap (λ (x : ℕ). 2 ^ x) (sym (back l (suc a) (pow_le_back (suc a) l h))) ∙ pow-add 2 (l - suc a) (suc a))
      ∙ sym (mul_assoc m (2 ^ (l - suc a)) (2 ^ suc a)),
)

-- a / d is W / L, and below T: so W is below O, which is T * L
pub under : (a d L W T O : ℕ) → 0 < L → a * L ≡ W * d → O ≡ L * T → a < T * d → W < O
under a d L W T O l x o h = lt_of_mul-lt-mul_right d (subst (λ (z : ℕ). W * d < z * d) (sym o) (omega (arith, mul-lt-mul_of_pos_right h l)))

-- what `fits` says of m * 2 ^ e: m has prec digits, 2 ^ e is no finer than the smallest value, and the whole is below 2 ^ (emax + 1)
pub fits-digits : (f : Format) (s : Bool) (m : ℕ) (e : ℤ) → T (fits f (fin s m e)) → m < 2 ^ prec f
unfolding fits
fits-digits f s zero e h = pow_pos (prec f)
fits-digits f s (suc m) e h =
    let A = eqb (suc m % 2) 1 in
    let B = ltb (suc m) (2 ^ prec f) in
    let C = leb (down e) (2 ^ low f) in
    ltb→lt (suc m) (2 ^ prec f) (and_r A B (and_l (A && B) C (and_l (A && B && C) (ltb (suc m * up e) (2 ^ suc (emax f) * down e)) h)))

pub fits-deep : (f : Format) (s : Bool) (m : ℕ) (e : ℤ) → T (fits f (fin s m e)) → down e ≤ 2 ^ low f
unfolding fits
fits-deep f s zero (pos k) h = pow_pos (low f)
fits-deep f s zero (negsuc k) h = le_trans (le_of_eq (sym (one-mul (2 ^ suc k)) ∙ eqb→eq (1 * 2 ^ suc k) 1 h)) (pow_pos (low f))
fits-deep f s (suc m) e h =
    let A = eqb (suc m % 2) 1 in
    let B = ltb (suc m) (2 ^ prec f) in
    let C = leb (down e) (2 ^ low f) in
    leb→le (down e) (2 ^ low f) (and_r (A && B) C (and_l (A && B && C) (ltb (suc m * up e) (2 ^ suc (emax f) * down e)) h))

pub fits_below : (f : Format) (s : Bool) (m : ℕ) (e : ℤ) → T (fits f (fin s m e)) → m * up e < 2 ^ suc (emax f) * down e
unfolding fits
fits_below f s zero e h = lt_of_le_of_lt (le_of_eq (zero-mul (up e))) (mul-pos (pow_pos (suc (emax f))) (down_pos e))
fits_below f s (suc m) e h = ltb→lt (suc m * up e) (2 ^ suc (emax f) * down e)
    (and_r (eqb (suc m % 2) 1 && ltb (suc m) (2 ^ prec f) && leb (down e) (2 ^ low f)) (ltb (suc m * up e) (2 ^ suc (emax f) * down e)) h)

pub on-grid : (f : Format) (s : Bool) (w : Float) → T (fits f w) → HasSign s w → OnGrid f w
unfolding fits
on-grid f s nan h g = absurd g
on-grid f s (inf t) h g = record {
  n = 1;
  j = suc (emax f) + low f;
  value = sym (pow-add 2 (suc (emax f)) (low f)) ∙ sym (one-mul (2 ^ (suc (emax f) + low f))) ∙ sym (mul-one (1 * 2 ^ (suc (emax f) + low f)));
  digits = pow-lt {i = 0} (two-le_pos (prec f) (two f));
  reach = le_of_eq (one-mul (2 ^ (suc (emax f) + low f)) ∙ ap (λ (x : ℕ). 2 ^ x) (add_comm (suc (emax f)) (low f)));
}
on-grid f s (fin t zero e) h g = record {
  n = 0;
  j = 0;
  value = omega arith;
  digits = pow_pos (prec f);
  reach = le_trans (le_of_eq (zero-mul (2 ^ 0))) zero-le;
}
on-grid f s (fin t (suc m) e) h g =
    let p = place (suc m) (low f) e (fits-deep f t (suc m) e h) in
    record {
      n = suc m;
      j = p.0;
      value = p.1;
      digits = fits-digits f t (suc m) e h;
      reach = le_of_lt (under (suc m * up e) (down e) (2 ^ low f) (suc m * 2 ^ p.0) (2 ^ suc (emax f)) (overflow f) (pow_pos (low f)) p.1
          (pow-add 2 (low f) (suc (emax f))) (fits_below f t (suc m) e h));
    }

pub den_pos : (w : Float) → 0 < den w
den_pos nan = pow_pos 0
den_pos (inf s) = pow_pos 0
den_pos (fin s m e) = down_pos e

pub signed : (s : Bool) (r : Float) (a c : ℕ) → HasValue r s a c → HasSign s r
signed s nan a c h = absurd h
signed s (inf t) a c h = absurd h
signed s (fin t m e) a c h = h.0

pub counted : (f : Format) (s : Bool) (r : Float) (a c : ℕ) → HasValue r s a c → num f r * c ≡ a * den r
counted f s nan a c h = absurd h
counted f s (inf t) a c h = absurd h
counted f s (fin t m e) a c h = h.1

-- the same value as another fraction
pub rescale : (x : Float) (s : Bool) (w l a c : ℕ) → 0 < l → a * l ≡ w * c → HasValue x s w l → HasValue x s a c
rescale nan s w l a c p h v = v
rescale (inf t) s w l a c p h v = v
rescale (fin t m e) s w l a c p h v = (
  v.0,
  eq_of_mul-eq-mul_right l p (m * up e * c) (a * down e)
      (mul_right_comm (m * up e) c l ∙ ap (λ (z : ℕ). z * c) v.1 ∙ mul_right_comm w (down e) c ∙ ap (λ (z : ℕ). z * down e) (sym h)
      ∙ mul_right_comm a l (down e)),
)

-- ---- the values next to q * 2 ^ k

-- q has all p digits, or it counts the smallest values
abbrev pub Leading : ℕ → ℕ → ℕ → Type 0
Leading p q k = (k ≡ 0) ⊎ (2 ^ (p - 1) ≤ q)

-- n * 2 ^ j is a whole number of 2 ^ k for k ≤ j
coarser : (n j k : ℕ) → k ≤ j → n * 2 ^ j ≡ n * 2 ^ (j - k) * 2 ^ k
coarser n j k h = ap (λ (x : ℕ). n * x) (ap (λ (x : ℕ). 2 ^ x) (sym (back j k h)) ∙ pow-add 2 (j - k) k) ∙ sym (mul_assoc n (2 ^ (j - k)) (2 ^ k))

one_more : (q n u : ℕ) → q * u < n * u → q * u + u ≤ n * u
one_more q n u h = le_trans (le_of_eq (omega arith)) (mul-le-mul_right u (lt_of_mul-lt-mul_right u h))

-- with fewer places it lies below 2 ^ (p - 1) * 2 ^ k
finer : (p n j k : ℕ) → 0 < p → n < 2 ^ p → j < k → n * 2 ^ j < 2 ^ (p - 1) * 2 ^ k
finer p n j k P h l = lt_of_lt_of_le (shl_lt p j h) (le_trans (pow_mono (omega arith)) (le_of_eq (pow-add 2 (p - 1) k)))

no_lt_zero : (j k : ℕ) → k ≡ 0 → j < k → ⊥
no_lt_zero j k e h = omega arith

pub or_lt : (j k : ℕ) → (k ≤ j) ⊎ (j < k)
or_lt j k = go (ltb j k) (ltb→lt j k) (nltb→le j k)
  where
    go : (b : Bool) → (T b → j < k) → (T (not b) → k ≤ j) → (k ≤ j) ⊎ (j < k)
    go true h g = inr (h tt)
    go false h g = inl (g tt)

pub next_up : (p q k n j : ℕ) → 0 < p → Leading p q k → n < 2 ^ p → q * 2 ^ k < n * 2 ^ j → q * 2 ^ k + 2 ^ k ≤ n * 2 ^ j
next_up p q k n j P L N h =
    elim (or_lt j k) [
      | inl le ↦
          let c = coarser n j k le in
          subst (λ (x : ℕ). q * 2 ^ k + 2 ^ k ≤ x) (sym c) (one_more q (n * 2 ^ (j - k)) (2 ^ k) (subst (λ (x : ℕ). q * 2 ^ k < x) c h))
      | inr lt ↦
          elim L [
            | inl z ↦ absurd (no_lt_zero j k z lt)
            | inr b ↦ absurd (omega (arith, finer p n j k P N lt, mul-le-mul_right (2 ^ k) b))
          ]
    ]

-- below, either there is a whole 2 ^ k to the next, or q is the least number of p digits
pub next_down : (p q k n j : ℕ) → 0 < p → Leading p q k → n < 2 ^ p → n * 2 ^ j < q * 2 ^ k → (n * 2 ^ j + 2 ^ k ≤ q * 2 ^ k) ⊎ ((q ≡ 2 ^ (p - 1)) × (0 < k))
next_down p q k n j P L N h =
    elim (or_lt j k) [
      | inl le ↦
          let c = coarser n j k le in
          inl (subst (λ (x : ℕ). x + 2 ^ k ≤ q * 2 ^ k) (sym c) (one_more (n * 2 ^ (j - k)) q (2 ^ k) (subst (λ (x : ℕ). x < q * 2 ^ k) c h)))
      | inr lt ↦
          elim L [
            | inl z ↦ absurd (no_lt_zero j k z lt)
            | inr b ↦
                elim (eq-or-lt_of_le b) [
                  | inl e ↦ inr (sym e, lt_of_le_of_lt zero-le lt)
                  | inr g ↦ inl (omega (arith, finer p n j k P N lt, one_more (2 ^ (p - 1)) q (2 ^ k) (mul-lt-mul_of_pos_right g (pow_pos k))))
                ]
          ]
    ]

-- ---- fractions, in smallest values

pub order : (a d b c L R W : ℕ) → 0 < L → a * L ≡ R * d → b * L ≡ W * c → a * c < b * d → R < W
order a d b c L R W l x y h = lt_of_mul-lt-mul_right (d * c) (omega (arith, ap (λ (z : ℕ). z * c) x, ap (λ (z : ℕ). z * d) y, mul-lt-mul_of_pos_right h l))

pub middle : (a d b c L R W : ℕ) → a * L ≡ R * d → b * L ≡ W * c → (a * c + b * d) * (2 * L) ≡ (R + W) * (2 * (d * c))
middle a d b c L R W x y = omega (arith, ap (λ (z : ℕ). z * c) x, ap (λ (z : ℕ). z * d) y)

-- ---- the law

-- what any real number satisfies: its order with fractions is that of the fractions
pub record Lawful (ρ : Real) : Type 0 where
  pub lower : (a b c d : ℕ) → 0 < b → 0 < d → a * d ≤ c * b → ρ.at_least c d → ρ.at_least a b
  pub higher : (a b c d : ℕ) → 0 < b → 0 < d → a * d ≤ c * b → ρ.at_most a b → ρ.at_most c d

-- ρ is within half of 2 ^ k smallest values, 2 ^ -l each, of q * 2 ^ k of them; from O of them on it may lie any distance above. Twice those are counted.
pub record Close (p l O : ℕ) (ρ : Real) (q k : ℕ) (Ev : Type 0) : Type 0 where
  pub above : q * 2 ^ k < O → (a : ℕ) → q * 2 ^ k + q * 2 ^ k + 2 ^ k ≤ a → ρ.at_most a (2 * 2 ^ l)
  pub below : (a : ℕ) → a + 2 ^ k ≤ q * 2 ^ k + q * 2 ^ k → ρ.at_least a (2 * 2 ^ l)
  pub tie-above : q * 2 ^ k < O → (a : ℕ) → q * 2 ^ k + q * 2 ^ k + 2 ^ k ≤ a → ρ.at_least a (2 * 2 ^ l) → Ev
  pub tie-below : (a : ℕ) → a + 2 ^ k ≤ q * 2 ^ k + q * 2 ^ k → ρ.at_most a (2 * 2 ^ l) → Ev
  -- at the least number of p digits the next value below is nearer, and ρ is not below q * 2 ^ k
  pub edge : q ≡ 2 ^ (p - 1) → 0 < k → (a : ℕ) → a < q * 2 ^ k + q * 2 ^ k → ρ.at_least a (2 * 2 ^ l)
  pub tie-edge : q ≡ 2 ^ (p - 1) → 0 < k → (a : ℕ) → a < q * 2 ^ k + q * 2 ^ k → ρ.at_most a (2 * 2 ^ l) → Ev

add-down : (R u W : ℕ) → W + u ≤ R → R + W + u ≤ R + R
add-down R u W h = omega arith

add-lt : (R W : ℕ) → W < R → R + W < R + R
add-lt R W h = omega arith

pub mid-pos : (v w : Float) → 0 < mid_den v w
mid-pos v w = mul-pos (pow_pos 1) (mul-pos (den_pos v) (den_pos w))

pub half_pos : (f : Format) → 0 < 2 * 2 ^ low f
half_pos f = mul-pos (pow_pos 1) (pow_pos (low f))

module _ (f : Format) (s : Bool) (ρ : Real) (law : Lawful ρ) (r : Float) (q k : ℕ) (value : num f r * 2 ^ low f ≡ q * 2 ^ k * den r)
    (lead : Leading (prec f) q k) (close : Close (prec f) (low f) (overflow f) ρ q k (Even f r)) where
  P : 0 < prec f
  P = two-le_pos (prec f) (two f)

  L : ℕ
  L = 2 ^ low f

  mid : (w : Float) (g : OnGrid f w) → mid_num f r w * (2 * 2 ^ low f) ≡ (q * 2 ^ k + g.n * 2 ^ g.j) * mid_den r w
  mid w g = middle (num f r) (den r) (num f w) (den w) (2 ^ low f) (q * 2 ^ k) (g.n * 2 ^ g.j) value g.value

  to-most : (w : Float) (g : OnGrid f w) → ρ.at_most (q * 2 ^ k + g.n * 2 ^ g.j) (2 * 2 ^ low f) → ρ.at_most (mid_num f r w) (mid_den r w)
  to-most w g = law.higher (q * 2 ^ k + g.n * 2 ^ g.j) (2 * 2 ^ low f) (mid_num f r w) (mid_den r w) (half_pos f) (mid-pos r w) (le_of_eq (sym (mid w g)))

  to-least : (w : Float) (g : OnGrid f w) → ρ.at_least (q * 2 ^ k + g.n * 2 ^ g.j) (2 * 2 ^ low f) → ρ.at_least (mid_num f r w) (mid_den r w)
  to-least w g = law.lower (mid_num f r w) (mid_den r w) (q * 2 ^ k + g.n * 2 ^ g.j) (2 * 2 ^ low f) (mid-pos r w) (half_pos f) (le_of_eq (mid w g))

  of-most : (w : Float) (g : OnGrid f w) → ρ.at_most (mid_num f r w) (mid_den r w) → ρ.at_most (q * 2 ^ k + g.n * 2 ^ g.j) (2 * 2 ^ low f)
  of-most w g = law.higher (mid_num f r w) (mid_den r w) (q * 2 ^ k + g.n * 2 ^ g.j) (2 * 2 ^ low f) (mid-pos r w) (half_pos f) (le_of_eq (mid w g))

  of-least : (w : Float) (g : OnGrid f w) → ρ.at_least (mid_num f r w) (mid_den r w) → ρ.at_least (q * 2 ^ k + g.n * 2 ^ g.j) (2 * 2 ^ low f)
  of-least w g = law.lower (q * 2 ^ k + g.n * 2 ^ g.j) (2 * 2 ^ low f) (mid_num f r w) (mid_den r w) (half_pos f) (mid-pos r w) (le_of_eq (sym (mid w g)))

  above-lt : (w : Float) (g : OnGrid f w) → Smaller f r w → q * 2 ^ k < g.n * 2 ^ g.j
  above-lt w g h = order (num f r) (den r) (num f w) (den w) (2 ^ low f) (q * 2 ^ k) (g.n * 2 ^ g.j) (pow_pos (low f)) value g.value h

  not-over : (w : Float) (g : OnGrid f w) → Smaller f r w → q * 2 ^ k < overflow f
  not-over w g h = lt_of_lt_of_le (above-lt w g h) g.reach

  above-by : (w : Float) (g : OnGrid f w) → Smaller f r w → q * 2 ^ k + q * 2 ^ k + 2 ^ k ≤ q * 2 ^ k + g.n * 2 ^ g.j
  above-by w g h =
      (omega (arith, next_up (prec f) q k g.n g.j P lead g.digits (above-lt w g h)))

  below-lt : (w : Float) (g : OnGrid f w) → Smaller f w r → g.n * 2 ^ g.j < q * 2 ^ k
  below-lt w g h = order (num f w) (den w) (num f r) (den r) (2 ^ low f) (g.n * 2 ^ g.j) (q * 2 ^ k) (pow_pos (low f)) g.value value h

  pub nearest-of : T (fits f r) → HasSign s r → Nearest f ρ s r
  nearest-of held sign = record {
    held = held;
    sign = sign;
    from_above = λ w t g h. let o = on-grid f s w t g in to-most w o (close.above (not-over w o h) (q * 2 ^ k + o.n * 2 ^ o.j) (above-by w o h));
    from_below = λ w t g h. let o = on-grid f s w t g in
        to-least w o
        (elim (next_down (prec f) q k o.n o.j P lead o.digits (below-lt w o h)) [
          | inl b ↦ close.below (q * 2 ^ k + o.n * 2 ^ o.j) (add-down (q * 2 ^ k) (2 ^ k) (o.n * 2 ^ o.j) b)
          | inr e ↦ close.edge e.0 e.1 (q * 2 ^ k + o.n * 2 ^ o.j) (add-lt (q * 2 ^ k) (o.n * 2 ^ o.j) (below-lt w o h))
        ]);
    tie_above = λ w t g h m. let o = on-grid f s w t g in close.tie-above (not-over w o h) (q * 2 ^ k + o.n * 2 ^ o.j) (above-by w o h) (of-least w o m);
    tie_below = λ w t g h m. let o = on-grid f s w t g in
        elim (next_down (prec f) q k o.n o.j P lead o.digits (below-lt w o h)) [
          | inl b ↦ close.tie-below (q * 2 ^ k + o.n * 2 ^ o.j) (add-down (q * 2 ^ k) (2 ^ k) (o.n * 2 ^ o.j) b) (of-most w o m)
          | inr e ↦ close.tie-edge e.0 e.1 (q * 2 ^ k + o.n * 2 ^ o.j) (add-lt (q * 2 ^ k) (o.n * 2 ^ o.j) (below-lt w o h)) (of-most w o m)
        ];
  }
