-- Sums side by side: the loop that adds one tap's products to all of them, the loop over the taps, and outputs in their places.
use mathlib.Core.Path.{◌≡◌, refl, sym, ap, ap₂, ◌∙◌}
use mathlib.Core.Bool.{true, false, and-false}
use mathlib.Core.List.{List, [], ◌∷◌, ◌++◌, reverse, append_assoc, append-nil}
use Prim.Native.Nat.{ℕ, zero, suc, ◌+◌, ◌-◌, ◌<◌, ◌≤◌}
use native.Mathlib.Nat.{zero-add, suc-add, add-zero, add-suc}
use native.Mathlib.Numerals.{add-one}
use native.Mathlib.Omega.{arith}
use lib.Dec.{leb}
use borrow.Author.Tests.{le-leb}
use borrow.Rule.Slice.PartMut.{put_mid}
use lib.ListN.{length, get_or, take, drop, drop_of_length-le}
use lib.Seq.{drop-drop, get_or-drop, get_or-take, take_at, take_all, drop_at}
use lib.Ieee.{Float, nan, Format, add, mul}
use Rattle.std.specs.List.{fold, zip}
use Rattle.std.proofs.lemmas.List.{length-reverse, get_or-reverse}
use Rattle.std.proofs.lemmas.List.Sums.{fold_more}
use Rattle.std.proofs.lemmas.Slice.Zip.{length-zip, get_or-zip}
use Rattle.limits.specs.Zero.{plus_zero}
use Rattle.lists.specs.Lists.{spliced}
use Rattle.fir_theory.specs.Convolution.{sum_at, sums_from, scaled, convolvable, convolved}
use Rattle.fir_theory.proofs.Laws.{add_product}

-- ---- one tap's products
pub scaled-length : (f : Format) (sums : List Float) (t : Float) (x : List Float) (k : ℕ) → length (scaled f sums t x k) ≡ length sums
unfolding scaled
scaled-length f [] t x k = refl
scaled-length f (y ∷ sums) t x k = ap suc (scaled-length f sums t x (suc k))

pub scaled_at : (f : Format) (sums : List Float) (t : Float) (x : List Float) (k j : ℕ) → j < length sums
    → add f (get_or sums j nan) (mul f t (get_or x (k + j) nan)) ≡ get_or (scaled f sums t x k) j nan
unfolding scaled
scaled_at f [] t x k j h = absurd (omega arith)
scaled_at f (y ∷ sums) t x k zero h = rw add-zero
scaled_at f (y ∷ sums) t x k (suc j) h = rw (add-suc, ← suc-add) (scaled_at f sums t x (suc k) j (omega arith))

-- of the samples from place a on
scaled-drop : (f : Format) (sums : List Float) (t : Float) (x : List Float) (a k : ℕ) → scaled f sums t (drop a x) k ≡ scaled f sums t x (a + k)
unfolding scaled
scaled-drop f [] t x a k = refl
scaled-drop f (y ∷ sums) t x a k =
    ap₂ ◌∷◌ (ap (λ (z : Float). add f y (mul f t z)) (get_or-drop a x k nan)) (scaled-drop f sums t x a (suc k) ∙ ap (scaled f sums t x) (add-suc a k))

-- ---- one tap more at each of the sums
module _ (f : Format) (taps : List Float) (x : List Float) where
  pub sums-more : (i k m : ℕ) → i ≤ k → scaled f (sums_from f taps i x k m) (get_or taps i nan) x (k - i) ≡ sums_from f taps (suc i) x k m
  unfolding scaled sums_from sum_at
  sums-more i k zero h = refl
  sums-more i k (suc m) h =
      let e : suc (k - i) ≡ suc k - i = omega arith in
      ap₂ ◌∷◌ refl (ap (λ (z : ℕ). scaled f (sums_from f taps i x (suc k) m) (get_or taps i nan) x z) e ∙ sums-more i (suc k) m (omega arith))

  pub length-sums : (i k m : ℕ) → length (sums_from f taps i x k m) ≡ m
  unfolding sums_from
  length-sums i k zero = refl
  length-sums i k (suc m) = ap suc (length-sums i (suc k) m)

  -- a turn of the loop over the taps
  pub taps-turn : {sums after : List Float} (i k m : ℕ) → i ≤ k → sums ≡ sums_from f taps i x k m
      → after ≡ scaled f sums (get_or taps i nan) (drop (k - i) x) 0 → after ≡ sums_from f taps (i + 1) x k m
  taps-turn {sums} i k m h e g =
      rw add-one (g ∙ scaled-drop f sums (get_or taps i nan) x (k - i) 0 ∙ ap (scaled f sums (get_or taps i nan) x) (add-zero (k - i))
      ∙ ap (λ (l : List Float). scaled f l (get_or taps i nan) x (k - i)) e ∙ sums-more i k m h)

  pub sums_at : (n k m j : ℕ) → j < m → sum_at f taps n x (k + j) ≡ get_or (sums_from f taps n x k m) j nan
  unfolding sums_from
  sums_at n k zero j h = absurd (omega arith)
  sums_at n k (suc m) zero h = rw add-zero
  sums_at n k (suc m) (suc j) h = rw (add-suc, ← suc-add) (sums_at n (suc k) m j (omega arith))

  -- ---- sums at one place after the other
  pub sums-append : (n k a b : ℕ) → sums_from f taps n x k (a + b) ≡ sums_from f taps n x k a ++ sums_from f taps n x (k + a) b
  unfolding sums_from
  sums-append n k zero b = rw (zero-add, add-zero)
  sums-append n k (suc a) b = rw (suc-add, add-suc) (ap (λ (l : List Float). sum_at f taps n x k ∷ l) (sums-append n (suc k) a b
      ∙ ap (λ (z : ℕ). sums_from f taps n x (suc k) a ++ sums_from f taps n x z b) (suc-add k a)))

  -- ---- of a part of the samples: those from place a on, and the first l
  sum-drop : (a n k : ℕ) → n ≤ suc k → sum_at f taps n (drop a x) k ≡ sum_at f taps n x (a + k)
  unfolding sum_at
  sum-drop a zero k h = refl
  sum-drop a (suc n) k h =
      let e : a + (k - n) ≡ a + k - n = omega arith in
      ap₂ (λ (s y : Float). add f s (mul f (get_or taps n nan) y)) (sum-drop a n k (omega arith))
      (get_or-drop a x (k - n) nan ∙ ap (λ (z : ℕ). get_or x z nan) e)

  sums-drop : (a n k m : ℕ) → n ≤ k → sums_from f taps n (drop a x) k m ≡ sums_from f taps n x (a + k) m
  unfolding sums_from
  sums-drop a n k zero h = refl
  sums-drop a n k (suc m) h =
      ap₂ ◌∷◌ (sum-drop a n k (omega arith)) (sums-drop a n (suc k) m (omega arith) ∙ ap (λ (z : ℕ). sums_from f taps n x z m) (add-suc a k))

  sum-take : (l n k : ℕ) → k < l → sum_at f taps n (take l x) k ≡ sum_at f taps n x k
  unfolding sum_at
  sum-take l zero k h = refl
  sum-take l (suc n) k h =
      ap₂ (λ (s y : Float). add f s (mul f (get_or taps n nan) y)) (sum-take l n k h) (get_or-take l x (k - n) nan (omega arith))

  -- ---- one sum, of taps and of samples from the last one back
  sum-back : (n : ℕ) → n ≤ length taps → length taps ≤ length x
      → fold (add_product f) plus_zero (take n (zip taps (reverse x))) ≡ sum_at f taps n x (length x - 1)
  unfolding sum_at
  sum-back zero h k = refl
  sum-back (suc n) h k =
      let lr = length-reverse x in
      let lz : n < length (zip taps (reverse x)) = omega (arith, length-zip taps (reverse x), lr) in
      let p : get_or (zip taps (reverse x)) n (nan, nan) ≡ (get_or taps n nan, get_or x (length x - 1 - n) nan) =
      get_or-zip taps (reverse x) n (nan, nan) (omega arith) (omega (arith, lr))
      ∙ ap (λ (z : Float). (get_or taps n nan, z)) (get_or-reverse x n nan (omega arith)) in
      ap (λ (z : ℕ). fold (add_product f) plus_zero (take z (zip taps (reverse x)))) (sym (add-one n))
      ∙ fold_more (add_product f) plus_zero (zip taps (reverse x)) n (nan, nan) lz
      ∙ ap₂ (add_product f) (sum-back n (omega arith) k) p

  pub one-sum : length x ≡ length taps → fold (add_product f) plus_zero (zip taps (reverse x)) ≡ sum_at f taps (length taps) x (length taps - 1)
  one-sum h =
      let lz : length (zip taps (reverse x)) ≤ length taps = omega (arith, length-zip taps (reverse x)) in
      ap (fold (add_product f) plus_zero) (sym (take_all (length taps) (zip taps (reverse x)) lz))
      ∙ sum-back (length taps) (omega arith) (omega (arith, h)) ∙ ap (λ (z : ℕ). sum_at f taps (length taps) x (z - 1)) h

-- of n samples from place j + 1 on, at the place of the last of them
pub sum-part : (f : Format) (taps x : List Float) (n j k : ℕ) → k ≡ n → sum_at f taps n (take k (drop (j + 1) x)) (n - 1) ≡ sum_at f taps n x (n + j)
unfolding sum_at
sum-part f taps x zero j k e = refl
sum-part f taps x (suc n) j k e =
    let c : j + 1 + n ≡ suc n + j = omega arith in
    let d : suc n - 1 ≡ n = omega arith in
    ap (sum_at f taps (suc n) (take k (drop (j + 1) x))) d ∙ sum-take f taps (drop (j + 1) x) k (suc n) n (omega arith)
    ∙ sum-drop f taps x (j + 1) (suc n) n (omega arith)
    ∙ ap (sum_at f taps (suc n) x) c

-- ---- outputs in their places, the first one behind as many samples as there are taps
module _ (f : Format) (taps x output₀ : List Float) where
  -- the first j outputs
  abbrev pub Outputting : List Float → ℕ → Type 0
  Outputting output j = output ≡ sums_from f taps (length taps) x (length taps) j ++ drop j output₀

  pub out-start : Outputting output₀ 0
  unfolding sums_from
  out-start = refl

  -- d sums more behind them
  pub out-turn : {output ys : List Float} (j d k : ℕ) → k ≡ d
      → ys ≡ sums_from f taps (length taps) (drop j x) (length taps) d → Outputting output j → Outputting (put_mid j k output ys) (j + d)
  out-turn {output} {ys} j d k ek e p =
      let S = sums_from f taps (length taps) x (length taps) j in
      let l : length S ≡ j = length-sums f taps x (length taps) (length taps) j in
      let c : j + length taps ≡ length taps + j = omega arith in
      let y : ys ≡ sums_from f taps (length taps) x (length taps + j) d = e ∙ sums-drop f taps x j (length taps) (length taps) d (omega arith)
      ∙ ap (λ (z : ℕ). sums_from f taps (length taps) x z d) c in
      rw (p, ek, take_at S (drop j output₀) j l, drop_at S (drop j output₀) j l, drop-drop, y, sums-append f taps x (length taps) (length taps) j d)
      (sym (append_assoc S (sums_from f taps (length taps) x (length taps + j) d) (drop (j + d) output₀)))

  -- the first j, and the m that are left
  pub out-done : {output ys : List Float} (j m k : ℕ) → k ≡ m → length output₀ ≡ j + m
      → ys ≡ sums_from f taps (length taps) (drop j x) (length taps) m → Outputting output j
      → put_mid j k output ys ≡ sums_from f taps (length taps) x (length taps) (length output₀)
  out-done j m k ek h e p =
      out-turn j m k ek e p
      ∙ ap₂ ◌++◌ (ap (sums_from f taps (length taps) x (length taps)) (sym h)) (drop_of_length-le output₀ {i = j + m} (omega (arith, h)))
      ∙ append-nil (sums_from f taps (length taps) x (length taps) (length output₀))

-- ---- whether all places are there
module _ (f : Format) (taps x output : List Float) where
  pub no-place : leb (length taps + length output) (length x) ≡ false
      → (false ≡ convolvable (length taps) taps x (length taps) output 0 (length output))
      × (output ≡ convolved f (length taps) taps x (length taps) output 0 (length output))
  unfolding convolved convolvable
  no-place e = (rw (e, and-false, and-false), rw (e, and-false, and-false))

  pub all_there : {after : List Float} → leb (length taps + length output) (length x) ≡ true
      → after ≡ sums_from f taps (length taps) x (length taps) (length output)
      → (true ≡ convolvable (length taps) taps x (length taps) output 0 (length output))
      × (after ≡ convolved f (length taps) taps x (length taps) output 0 (length output))
  unfolding convolved convolvable spliced
  all_there e g =
      let n = le-leb (length taps) (length taps) (omega arith) in
      let m = le-leb (0 + length output) (length output) (omega arith) in
      let S = sums_from f taps (length taps) x (length taps) (length output) in
      let l : length output ≤ 0 + length S = omega (arith, length-sums f taps x (length taps) (length taps) (length output)) in
      (rw (n, e, m), rw (n, e, m, g, drop_of_length-le output {i = 0 + length S} l) (sym (append-nil S)))

  -- where they are, the output is the sums
  pub convolved-sums : length taps + length output ≤ length x
      → convolved f (length taps) taps x (length taps) output 0 (length output) ≡ sums_from f taps (length taps) x (length taps) (length output)
  convolved-sums h = sym (all_there (le-leb (length taps + length output) (length x) h) refl).1
