-- The bit patterns of the values of binary64 that are finite and not negative, and what `sqrt`'s steps say of them.
use mathlib.Core.Path.{◌≡◌, refl, sym, ap, ◌∙◌, subst}
use mathlib.Core.Logic.{inr}
use Prim.Native.Nat.{ℕ, zero, suc, ◌+◌, ◌-◌, ◌*◌, ◌/◌, ◌%◌, ◌^◌, ◌≤◌, ◌<◌}
use native.Mathlib.Nat.{le_of_lt, le_of_eq, le_trans, mod-eq_of_lt, mul_assoc, mul-one, mul-pos, zero-lt-suc}
use lib.Pow.{pow-add, pow_pos}
use native.Mathlib.Omega.{arith}
use mathlib.Core.Bool.{Bool, true, false, not, cond, true≢false}
use lib.IntN.{pos}
use lib.Dec.{T, leb, ltb, eqb, eqb→eq, not_T, T_not, lt→ltb, ltb→lt, nltb→le, nleb→lt}
use lib.Arith.{lt→nleb, le→nltb}
use lib.Ieee.{Float, nan, inf, fin, binary64, up, down, odd, of_fields, of_bits, lt, nan_bits}
use lib.Ieee.Bits.{is_false, cond_no, of_bits-fits, nan_bits_above}
use lib.Ieee.Exact.{HasValue, odd_sign}
use lib.Ieee.Fits.{down_pos, up_pos}
use Rattle.ieee.specs.Nearest.{Nearest, root}
use Rattle.ieee.specs.Sqrt.{Sqrt}
use Rattle.ieee.specs.Digits.{Rooted}
use Rattle.ieee.proofs.Grid.{signed, counted, nearest-of}
use Rattle.ieee.proofs.Roots.{root-lawful, root-close}

-- ---- from a pattern to the value

of_bits_is : (b : ℕ) → of_bits binary64 b ≡ of_fields binary64 (leb (2 ^ 63) b) (b % 2 ^ 63 / 2 ^ 52) (b % 2 ^ 52)
unfolding of_bits
of_bits_is b = refl

under_ones : (t x : ℕ) → suc x < 2047 → of_fields binary64 false (suc x) t ≡ odd 53 false (2 ^ 52 + t) x 1074
unfolding of_fields
under_ones t x h = cond_no (eqb (suc x) 2047) (cond (eqb t 0) (inf false) nan) (odd 53 false (2 ^ 52 + t) x 1074)
    (not_T (eqb (suc x) 2047) (λ (u : T (eqb (suc x) 2047)). omega (arith, eqb→eq (suc x) 2047 u)))

-- the pattern of the infinity: 2047 * 2 ^ 52
no_sign : (b : ℕ) → b < 2047 * 2 ^ 52 → b < 2 ^ 63
no_sign b h = omega arith

plus : (b : ℕ) → b < 2047 * 2 ^ 52 → of_bits binary64 b ≡ of_fields binary64 false (b / 2 ^ 52) (b % 2 ^ 52)
plus b k =
    of_bits_is b
    ∙ ap (λ (s : Bool). of_fields binary64 s (b % 2 ^ 63 / 2 ^ 52) (b % 2 ^ 52)) (is_false (leb (2 ^ 63) b) (lt→nleb (2 ^ 63) b (no_sign b k)))
    ∙ ap (λ (x : ℕ). of_fields binary64 false (x / 2 ^ 52) (b % 2 ^ 52)) (mod-eq_of_lt (no_sign b k))

pub normal : (b : ℕ) → 2 ^ 52 ≤ b → b < 2047 * 2 ^ 52 → of_bits binary64 b ≡ odd 53 false (2 ^ 52 + b % 2 ^ 52) (b / 2 ^ 52 - 1) 1074
normal b h k =
    plus b k
    ∙ ap (λ (x : ℕ). of_fields binary64 false x (b % 2 ^ 52)) (omega arith)
    ∙ under_ones (b % 2 ^ 52) (b / 2 ^ 52 - 1) (omega arith)

pub subnormal : (b : ℕ) → b < 2 ^ 52 → of_bits binary64 b ≡ odd 53 false b 0 1074
unfolding of_fields
subnormal b h =
    plus b (omega arith)
    ∙ ap (λ (x : ℕ). of_fields binary64 false x (b % 2 ^ 52)) {x = b / 2 ^ 52} {y = 0} (omega arith)
    ∙ ap (λ (x : ℕ). of_fields binary64 false 0 x) (mod-eq_of_lt h)

-- ---- the pattern that the steps give
pub made-hi : (k q : ℕ) → q < 2 ^ 53 → k < 2000 → k * 2 ^ 52 + q < 2047 * 2 ^ 52
made-hi k q h l = omega arith

pub made : (k q : ℕ) → 2 ^ 52 ≤ q → q < 2 ^ 53 → k < 2000 → of_bits binary64 (k * 2 ^ 52 + q) ≡ odd 53 false q k 1074
made k q h l x =
    normal (k * 2 ^ 52 + q) (omega arith) (made-hi k q l x)
    ∙ ap (λ (z : ℕ). odd 53 false z ((k * 2 ^ 52 + q) / 2 ^ 52 - 1) 1074) (omega arith)
    ∙ ap (λ (z : ℕ). odd 53 false q z 1074) (omega arith)

-- p / d is n smallest values, and b is what `root_bits` makes of them
near : (p d n b : ℕ) → 0 < d → p * 2 ^ 1074 ≡ n * d → Rooted (n * 2 ^ 52) b → Nearest binary64 (root p d) false (of_bits binary64 b)
near p d n b D x g =
    let r = of_bits binary64 b in
    let v : HasValue r false (g.q * 2 ^ g.k) (2 ^ 1074) =
    subst (λ (z : Float). HasValue z false (g.q * 2 ^ g.k) (2 ^ 1074))
    (sym (ap (of_bits binary64) g.bits ∙ made g.k g.q g.least g.most g.exponent)) (odd_sign 53 false g.q g.k 1074) in
    nearest-of binary64 false (root p d) (root-lawful p d) r g.q g.k (counted binary64 false r (g.q * 2 ^ g.k) (2 ^ 1074) v) (inr g.least)
    (root-close p d n 1074 g.M g.q g.k (2 ^ 52) D x (g.square ∙ mul_assoc n (2 ^ 52) (2 ^ 1022)) g.below g.above g.start
    (omega (arith, g.least)) 53 _ refl _)
    (of_bits-fits binary64 b) (signed false r (g.q * 2 ^ g.k) (2 ^ 1074) v)

-- ---- `sqrt` at each kind of x

none : (n w z : ℕ) → w ≡ n → w ≡ 0 → 0 < n → ⊥
none n w z e h p = omega arith

nothing : (u d : ℕ) → 0 * u * d ≡ 0
nothing u d = omega arith

of-count : (x : Float) (n b : ℕ) → HasValue x false n (2 ^ 1074) → 0 < n → Rooted (n * 2 ^ 52) b → Sqrt binary64 x (of_bits binary64 b)
of-count nan n b v p g = absurd v
of-count (inf t) n b v p g = absurd v
of-count (fin true m e) n b v p g = absurd (true≢false v.0)
of-count (fin false zero e) n b v p g = absurd (none (n * down e) (0 * up e * 2 ^ 1074) 0 v.1 (nothing (up e) (2 ^ 1074)) (mul-pos p (down_pos e)))
of-count (fin false (suc m) e) n b v p g = near (suc m * up e) (down e) n b (down_pos e) v.1 g

-- x from its own pattern
scaled : (m x : ℕ) → 1 ≤ x → m * 2 ^ (x - 1) * 2 ^ 52 ≡ m * 2 ^ (x + 51)
scaled m x h = mul_assoc m (2 ^ (x - 1)) (2 ^ 52) ∙ ap (λ (z : ℕ). m * z) (sym (pow-add 2 (x - 1) 52) ∙ ap (λ (z : ℕ). 2 ^ z) (omega arith))

pub finite-root : (x : Float) (b r : ℕ) → of_bits binary64 b ≡ x → 0 < b → b < 2047 * 2 ^ 52
    → (b < 2 ^ 52 → Rooted (b * 2 ^ 52) r)
    → (2 ^ 52 ≤ b → Rooted ((2 ^ 52 + b % 2 ^ 52) * 2 ^ (b / 2 ^ 52 + 51)) r)
    → Sqrt binary64 x (of_bits binary64 r)
finite-root x b r e B I s g = go (ltb b (2 ^ 52)) (ltb→lt b (2 ^ 52)) (nltb→le b (2 ^ 52))
  where
    go : (t : Bool) → (T t → b < 2 ^ 52) → (T (not t) → 2 ^ 52 ≤ b) → Sqrt binary64 x (of_bits binary64 r)
    go true l h =
        of-count x b r
        (subst (λ (n : ℕ). HasValue x false n (2 ^ 1074)) (mul-one b)
        (subst (λ (z : Float). HasValue z false (b * 2 ^ 0) (2 ^ 1074)) (sym (subnormal b (l tt)) ∙ e) (odd_sign 53 false b 0 1074)))
        B (s (l tt))
    go false l h =
        let m = 2 ^ 52 + b % 2 ^ 52 in
        let k = b / 2 ^ 52 in
        of-count x (m * 2 ^ (k - 1)) r
        (subst (λ (z : Float). HasValue z false (m * 2 ^ (k - 1)) (2 ^ 1074)) (sym (normal b (h tt) I) ∙ e) (odd_sign 53 false m (k - 1) 1074))
        (mul-pos (omega arith) (pow_pos (k - 1)))
        (subst (λ (n : ℕ). Rooted n r) (sym (scaled m k (omega (arith, h tt)))) (g (h tt)))

-- the pattern of what is above zero is above zero
not-above : T (lt (fin false 0 (pos 0)) (fin false 0 (pos 0))) → ⊥
unfolding lt
not-above t = t

pub bits_pos : (x : Float) (b : ℕ) → of_bits binary64 b ≡ x → T (lt (fin false 0 (pos 0)) x) → 0 < b
unfolding of_bits
bits_pos x zero e h = absurd (not-above (subst (λ (z : Float). T (lt (fin false 0 (pos 0)) z)) (sym e) h))
bits_pos x (suc b) e h = zero-lt-suc b

-- a pattern whose magnitude is at most the infinity's is no NaN's, and so is what the steps make
pub number-pattern : (b : ℕ) → b % 2 ^ 63 ≤ 2047 * 2 ^ 52 → T (not (nan_bits binary64 b))
number-pattern b l = subst (λ (t : Bool). T (not t)) (sym (nan_bits_above binary64 b)) (le→nltb (2047 * 2 ^ 52) (b % 2 ^ 63) l)

pub below_no_nan : (b : ℕ) → b < 2047 * 2 ^ 52 → T (not (nan_bits binary64 b))
below_no_nan b l = number-pattern b (le_trans (le_of_eq (mod-eq_of_lt (no_sign b l))) (le_of_lt l))

pub no_nan : (r N : ℕ) → Rooted N r → T (not (nan_bits binary64 r))
no_nan r N g = below_no_nan r (subst (λ (z : ℕ). z < 2047 * 2 ^ 52) (sym g.bits) (made-hi g.k g.q g.most g.exponent))

-- a pattern from the infinity's on is none of a finite value above zero
abbrev pub Above : Float → Type 0
Above nan = ⊥
Above (inf s) = ⊥
Above (fin true m e) = ⊥
Above (fin false m e) = Unit

special : (t : Bool) (s : Bool) → Above (cond t (inf s) nan) → ⊥
special true s h = h
special false s h = h

odd-minus : (d q k l : ℕ) → Above (odd d true q k l) → ⊥
unfolding odd
odd-minus d zero k l h = h
odd-minus d (suc q) k l h = h

either : (t : Bool) (x y : Float) → (Above x → ⊥) → (Above y → ⊥) → Above (cond t x y) → ⊥
either true x y p q h = p h
either false x y p q h = q h

minus : (x t : ℕ) → Above (of_fields binary64 true x t) → ⊥
unfolding of_fields
minus zero t h = odd-minus 53 t 0 1074 h
minus (suc x) t h = either (eqb (suc x) 2047) (cond (eqb t 0) (inf true) nan) (odd 53 true (2 ^ 52 + t) x 1074) (special (eqb t 0) true)
    (odd-minus 53 (2 ^ 52 + t) x 1074) h

at_top : (s : Bool) (t : ℕ) → Above (of_fields binary64 s 2047 t) → ⊥
unfolding of_fields
at_top s t h = special (eqb t 0) s h

pub beyond : (b : ℕ) → 2047 * 2 ^ 52 ≤ b → Above (of_bits binary64 b) → ⊥
beyond b h a = go (leb (2 ^ 63) b) (nleb→lt (2 ^ 63) b) (subst Above (of_bits_is b) a)
  where
    go : (s : Bool) → (T (not s) → b < 2 ^ 63) → Above (of_fields binary64 s (b % 2 ^ 63 / 2 ^ 52) (b % 2 ^ 52)) → ⊥
    go true l a = minus (b % 2 ^ 63 / 2 ^ 52) (b % 2 ^ 52) a
    go false l a = at_top false (b % 2 ^ 52) (subst (λ (x : ℕ). Above (of_fields binary64 false x (b % 2 ^ 52))) (omega (arith, l tt)) a)

-- ---- x that is its own root, and x that has none
pub negative : (x r : Float) → T (lt x (fin false 0 (pos 0))) → r ≡ nan → Sqrt binary64 x r
unfolding lt
negative nan r h e = e
negative (inf true) r h e = e
negative (inf false) r h e = absurd h
negative (fin true zero d) r h e = absurd (omega (arith, ltb→lt 0 (0 * up d * 1 + 0 * 1 * down d) h))
negative (fin false zero d) r h e = absurd (omega (arith, ltb→lt (0 * up d * 1) (0 * 1 * down d) h))
negative (fin true (suc m) d) r h e = e
negative (fin false (suc m) d) r h e = absurd (omega (arith, ltb→lt (suc m * up d * 1) (0 * 1 * down d) h))

pub infinite : (x : Float) (b : ℕ) → of_bits binary64 b ≡ x → T (lt (fin false 0 (pos 0)) x) → 2047 * 2 ^ 52 ≤ b → Sqrt binary64 x x
unfolding lt
infinite nan b e h l = refl
infinite (inf true) b e h l = absurd h
infinite (inf false) b e h l = refl
infinite (fin true zero d) b e h l = refl
infinite (fin false zero d) b e h l = refl
infinite (fin true (suc m) d) b e h l = absurd h
infinite (fin false (suc m) d) b e h l = absurd (beyond b l (subst Above (sym e) tt))

some-pos : (m u d : ℕ) → 0 < u → 0 < d → 0 < suc m * u * d
some-pos m u d U D = mul-pos (mul-pos (zero-lt-suc m) U) D

pub neither : (x : Float) → T (not (lt x (fin false 0 (pos 0)))) → T (not (lt (fin false 0 (pos 0)) x)) → Sqrt binary64 x x
unfolding lt
neither nan h g = refl
neither (inf true) h g = absurd h
neither (inf false) h g = absurd g
neither (fin true zero d) h g = refl
neither (fin false zero d) h g = refl
neither (fin true (suc m) d) h g =
    absurd (T_not (ltb 0 (suc m * up d * 1 + 0 * 1 * down d)) h
    (lt→ltb 0 (suc m * up d * 1 + 0 * 1 * down d) (omega (arith, some-pos m (up d) 1 (up_pos d) (zero-lt-suc 0)))))
neither (fin false (suc m) d) h g =
    absurd (T_not (ltb (0 * 1 * down d) (suc m * up d * 1)) g
    (lt→ltb (0 * 1 * down d) (suc m * up d * 1) (omega (arith, some-pos m (up d) 1 (up_pos d) (zero-lt-suc 0)))))

pub no-nan-made : (b r : ℕ)
    → (b < 2 ^ 52 → Rooted (b * 2 ^ 52) r)
    → (2 ^ 52 ≤ b → Rooted ((2 ^ 52 + b % 2 ^ 52) * 2 ^ (b / 2 ^ 52 + 51)) r)
    → T (not (nan_bits binary64 r))
no-nan-made b r s g = go (ltb b (2 ^ 52)) (ltb→lt b (2 ^ 52)) (nltb→le b (2 ^ 52))
  where
    go : (t : Bool) → (T t → b < 2 ^ 52) → (T (not t) → 2 ^ 52 ≤ b) → T (not (nan_bits binary64 r))
    go true l h = no_nan r (b * 2 ^ 52) (s (l tt))
    go false l h = no_nan r ((2 ^ 52 + b % 2 ^ 52) * 2 ^ (b / 2 ^ 52 + 51)) (g (h tt))
