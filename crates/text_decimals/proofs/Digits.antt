-- What digits write: the loops over them, and how large it can be.
use Rattle.std.proofs.Common.{ℕ, zero, suc, ◌+◌, ◌*◌, ◌^◌, ◌<◌, ◌≤◌, min, ◌≡◌, ◌∙◌, refl, sym, ap, List, [], ◌∷◌, ◌++◌}
use Rattle.std.proofs.Common.{arith, add-one, length, get_or, drop, drop-cons, drop_of_length-le}
use native.Mathlib.Nat.{le_trans, le_of_eq, add_comm, add-mul, mul-suc, mul-le-mul_right, mul_assoc, le-mul_of_pos_right, one-le-pow, pow-succ'}
use Rattle.std.proofs.lemmas.Bool.Decides.{nat_tests}
use Rattle.text_decimals.specs.Decimals.{digit, value_after}

-- ---- a digit is at most 15
pub digit-small : (b : ℕ) → digit b ≤ 15
unfolding digit
digit-small b = grind (arith, nat_tests)

-- ---- what digits write
pub value-cons : (base n : ℕ) (ds : List ℕ) (i : ℕ) → i < length ds → value_after base n (drop i ds)
    ≡ value_after base (n * base + digit (get_or ds i 0)) (drop (i + 1) ds)
unfolding value_after
value-cons base n ds i h = rw (drop-cons ds i 0 h, add-one)

pub value-append : (base n : ℕ) (xs ys : List ℕ) → value_after base n (xs ++ ys) ≡ value_after base (value_after base n xs) ys
unfolding value_after
value-append base n [] ys = refl
value-append base n (x ∷ xs) ys = value-append base (n * base + digit x) xs ys

pub value-all : (base n : ℕ) (ds : List ℕ) (i : ℕ) → length ds ≤ i → value_after base n (drop i ds) ≡ n
unfolding value_after
value-all base n ds i h = rw (drop_of_length-le ds {i = i} h)

-- it is no less than what stood before them, in a base of 1 or more
pub value-more : (base n : ℕ) (ds : List ℕ) → n ≤ value_after (suc base) n ds
unfolding value_after
value-more base n [] = omega arith
value-more base n (d ∷ ds) = le_trans (omega (arith, grow n base)) (value-more base (n * suc base + digit d) ds)
  where
    grow : (n b : ℕ) → n * suc b ≡ n + n * b
    grow n b = mul-suc n b ∙ add_comm (n * b) n

-- and less than (n + c) base^k for at most k digits, where c is as large as the base asks
pub value-less : (base c n : ℕ) (ds : List ℕ) (k : ℕ) → 15 + c ≤ c * base → 0 < base → length ds ≤ k → value_after base n ds + c ≤ (n + c) * base ^ k
unfolding value_after
value-less base c n [] k h p l = le-mul_of_pos_right (n + c) (one-le-pow k base p)
value-less base c n (d ∷ ds) zero h p l = absurd (omega arith)
value-less base c n (d ∷ ds) (suc k) h p l =
    let step : n * base + digit d + c ≤ (n + c) * base = rw (add-mul n c base) (omega (arith, digit-small d)) in
    le_trans (value-less base c (n * base + digit d) ds k h p (omega arith))
    (le_trans (mul-le-mul_right (base ^ k) step) (le_of_eq (mul_assoc (n + c) base (base ^ k) ∙ ap (λ (z : ℕ). (n + c) * z) (sym (pow-succ' base k)))))

-- ---- decimal digits, capped: the loop at place i
abbrev pub limit : ℕ
limit = 10 ^ 15

-- a cap before more digits is a cap after them
pub capped : (n : ℕ) (ds : List ℕ) → min (value_after 10 (min n limit) ds) limit ≡ min (value_after 10 n ds) limit
unfolding value_after
capped n [] = omega arith
capped n (d ∷ ds) =
    sym (capped (min n limit * 10 + digit d) ds) ∙ ap (λ (z : ℕ). min (value_after 10 z ds) limit) (omega arith) ∙ capped (n * 10 + digit d) ds

pub record Capping (n : ℕ) (ds : List ℕ) (value i : ℕ) : Type 0 where
  pub small : value ≤ limit
  pub same : min (value_after 10 value (drop i ds)) limit ≡ min (value_after 10 n ds) limit

pub cap-turn : (n : ℕ) (ds : List ℕ) (value i d : ℕ) → i < length ds → d ≡ digit (get_or ds i 0) → Capping n ds value i
    → Capping n ds (min (value * 10 + d) limit) (i + 1)
cap-turn n ds value i d h e r =
    record { small = omega arith; same = capped (value * 10 + d) (drop (i + 1) ds) ∙ rw (e, ← value-cons 10 value ds i h) r.same }

pub cap-done : (n : ℕ) (ds : List ℕ) (value i : ℕ) → length ds ≤ i → Capping n ds value i → value ≡ min (value_after 10 n ds) limit
cap-done n ds value i h r = omega (arith, r.small, r.same, value-all 10 value ds i h)

-- ---- a decimal: what the two calls read, one after the other
pub both_read : (whole fraction : List ℕ) {a v : ℕ} → a ≡ min (value_after 10 0 whole) limit → v ≡ min (value_after 10 a fraction) limit
    → v ≡ min (value_after 10 0 (whole ++ fraction)) limit
both_read whole fraction {a} {v} f g = rw value-append ((rw f at g) ∙ capped (value_after 10 0 whole) fraction)

-- ---- a count is below the cap
pub nine_digits : (token : List ℕ) → length token ≤ 9 → value_after 10 0 token < limit
nine_digits token h = let s = value-less 10 2 0 token 9 (omega arith) (omega arith) h in omega arith
