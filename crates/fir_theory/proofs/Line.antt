-- A long block: the numbers answered are sums at places of a list of samples that stands oldest first, and the newest samples after them.
use mathlib.Core.Path.{◌≡◌, refl, sym, ap, ap₂, ◌∙◌}
use mathlib.Core.List.{List, [], ◌∷◌, ◌++◌, reverse}
use Prim.Native.Nat.{ℕ, zero, suc, ◌+◌, ◌-◌, ◌<◌, ◌≤◌}
use native.Mathlib.Nat.{add-zero, suc-sub-suc, sub-zero}
use native.Mathlib.Omega.{arith}
use borrow.Rule.Slice.PartMut.{put_mid}
use lib.ListN.{length, get_or, take, drop, length-take, length-drop, length-append, take-append-drop, get_or-append}
use lib.Seq.{get_or-append-add, length-take-le, take_at, take-append-le}
use lib.Ieee.{Float, nan, Format, add, mul}
use Rattle.std.proofs.lemmas.List.{length-reverse, get_or-reverse, reverse-reverse, reverse-append}
use Rattle.std.proofs.lemmas.Slice.{between_is, take-put_mid}
use Rattle.limits.specs.Zero.{plus_zero}
use Rattle.fir_theory.specs.Convolution.{sum_at, sums_from}
use Rattle.fir_theory.specs.Fir.{sum}
use Rattle.fir_theory.specs.Blocks.{values}
use Rattle.fir_theory.proofs.Laws.{sum-none, sum-taps, take_more}
use Rattle.fir_theory.proofs.Full.{reverse-on}

-- ---- a history, newest first, at place k of a list that stands oldest first
abbrev Past : List Float → ℕ → List Float → ℕ → Type 0
Past X k L n = (i : ℕ) → i < n → get_or X (k - i) nan ≡ get_or L i nan

past-turn : (X : List Float) (k : ℕ) (L : List Float) (n : ℕ) (x : Float) → get_or X (suc k) nan ≡ x → Past X k L n → Past X (suc k) (x ∷ L) n
past-turn X k L n x e p zero h = rw sub-zero e
past-turn X k L n x e p (suc i) h = rw suc-sub-suc (p i (omega arith))

module _ (f : Format) (ts : List Float) where
  -- one product more
  sum-take : (y : Float) (us L : List Float) (n : ℕ) → n < length us → n < length L → sum f y us (take (suc n) L)
      ≡ add f (sum f y us (take n L)) (mul f (get_or us n nan) (get_or L n nan))
  unfolding sum
  sum-take y [] L n h k = absurd (omega arith)
  sum-take y (u ∷ us) [] n h k = absurd (omega arith)
  sum-take y (u ∷ us) (x ∷ L) zero h k = sum-none f us (add f y (mul f u x))
  sum-take y (u ∷ us) (x ∷ L) (suc n) h k = sum-take (add f y (mul f u x)) us L n (omega arith) (omega arith)

  sum-at : (X : List Float) (k : ℕ) (L : List Float) (n : ℕ) → n ≤ length ts → n ≤ length L → Past X k L n
      → sum_at f ts n X k ≡ sum f plus_zero ts (take n L)
  unfolding sum_at
  sum-at X k L zero h l p = sym (sum-none f ts plus_zero)
  sum-at X k L (suc n) h l p =
      ap₂ (λ (a b : Float). add f a (mul f (get_or ts n nan) b)) (sum-at X k L n (omega arith) (omega arith) (λ i g. p i (omega arith))) (p n (omega arith))
      ∙ sym (sum-take plus_zero ts L n (omega arith) (omega arith))

  values-at : (n : ℕ) (X : List Float) (k : ℕ) (L xs : List Float) → n ≤ length ts → n ≤ length L → Past X k L n
      → ((j : ℕ) → j < length xs → get_or X (suc k + j) nan ≡ get_or xs j nan)
      → sums_from f ts n X (suc k) (length xs) ≡ values f ts n L xs
  unfolding sums_from values
  values-at n X k L [] h l p q = refl
  values-at n X k L (x ∷ xs) h l p q =
      let t = past-turn X k L n x (ap (λ (z : ℕ). get_or X z nan) (sym (add-zero (suc k))) ∙ q 0 (omega arith)) p in
      ap₂ ◌∷◌ (sum-at X (suc k) (x ∷ L) n h (omega arith) t)
      (values-at n X (suc k) (x ∷ L) xs h (omega arith) t (λ j g. ap (λ (z : ℕ). get_or X z nan) (omega arith) ∙ q (suc j) (omega arith)))

-- ---- the values
module _ (f : Format) (ts : List Float) (n : ℕ) where
  values-append : (L a b : List Float) → values f ts n L (a ++ b) ≡ values f ts n L a ++ values f ts n (reverse a ++ L) b
  unfolding values
  values-append L [] b = refl
  values-append L (x ∷ a) b =
      ap₂ ◌∷◌ refl (values-append (x ∷ L) a b ∙ ap (λ (l : List Float). values f ts n (x ∷ L) a ++ values f ts n l b) (sym (reverse-on x a L)))

  -- the newest n of the history are enough
  values-newest : (K L xs : List Float) → take n K ≡ take n L → values f ts n K xs ≡ values f ts n L xs
  unfolding values
  values-newest K L [] e = refl
  values-newest K L (x ∷ xs) e = let t = take_more n x K L e in
      ap₂ ◌∷◌ (ap (sum f plus_zero ts) t) (values-newest (x ∷ K) (x ∷ L) xs t)

  -- and the first n taps
  pub values-taps : (L xs : List Float) → values f (take n ts) n L xs ≡ values f ts n L xs
  unfolding values
  values-taps L [] = refl
  values-taps L (x ∷ xs) =
      ap₂ ◌∷◌ (sum-taps f plus_zero n ts (take n (x ∷ L)) (simp length-take (omega arith))) (values-taps (x ∷ L) xs)

  -- ---- n samples, newest first
  module _ (some : 1 ≤ n) (enough : n ≤ length ts) where
    -- the sums at the places behind them are the values
    pub stretch : (S xs : List Float) → length S ≡ n → sums_from f ts n (reverse S ++ xs) n (length xs) ≡ values f ts n S xs
    stretch S xs l =
        let q : suc (n - 1) ≡ n = omega arith in
        let r = length-reverse S in
        ap (λ (k : ℕ). sums_from f ts n (reverse S ++ xs) k (length xs)) (sym q)
        ∙ values-at f ts n (reverse S ++ xs) (n - 1) S xs enough (omega (arith, l))
        (λ i g. get_or-append (reverse S) xs nan (n - 1 - i) (omega (arith, r, l)) ∙ get_or-reverse S (n - 1 - i) nan (omega (arith, l))
        ∙ ap (λ (z : ℕ). get_or S z nan) (omega (arith, l)))
        (λ j g. ap (λ (z : ℕ). get_or (reverse S ++ xs) z nan) (omega (arith, r, l)) ∙ get_or-append-add (reverse S) xs j nan)

    -- those of more samples, the first n of which are enough of a history
    pub farther : (S input : List Float) → n ≤ length input → sums_from f ts n input n (length input - n)
        ≡ values f ts n (reverse (take n input) ++ S) (drop n input)
    farther S input h =
        let P = reverse (take n input) in
        let lp : length P ≡ n = length-reverse (take n input) ∙ length-take-le n input h in
        let whole : reverse P ++ drop n input ≡ input = ap (λ (l : List Float). l ++ drop n input) (reverse-reverse (take n input))
        ∙ take-append-drop n input in
        ap₂ (λ (X : List Float) (m : ℕ). sums_from f ts n X n m) (sym whole) (sym (length-drop n input)) ∙ stretch P (drop n input) lp
        ∙ values-newest P (P ++ S) (drop n input) (sym (take-append-le n P S (omega (arith, lp))))

    -- all of them
    pub both-stretches : (S input : List Float) {a b : List Float} (m : ℕ) → a ≡ values f ts n S (take m input)
        → b ≡ values f ts n (reverse (take m input) ++ S) (drop m input) → a ++ b ≡ values f ts n S input
    both-stretches S input m ea eb =
        ap₂ ◌++◌ ea eb ∙ sym (values-append S (take m input) (drop m input)) ∙ ap (values f ts n S) (take-append-drop m input)

-- ---- the line: what is put behind the held samples
pub line-is : (S xs line₀ : List Float) {a b : List Float} (k : ℕ) → k ≡ length xs → a ≡ reverse S → b ≡ xs
    → take (length S + length xs) (put_mid (length S) k (a ++ drop (length S) line₀) b) ≡ reverse S ++ xs
line-is S xs line₀ {a} {b} k ek ea eb =
    let r = length-reverse S in
    let n : length S + length xs ≡ length S + length b = ap (λ (l : List Float). length S + length l) (sym eb) in
    take-put_mid (length S) k (a ++ drop (length S) line₀) b (length S + length xs) n
    (omega (arith, length-append a (drop (length S) line₀), ap length ea, r))
    ∙ ap₂ ◌++◌ (take_at a (drop (length S) line₀) (length S) (ap length ea ∙ r) ∙ ea) eb

-- ---- the newest samples
reverse-drop : (k : ℕ) (X : List Float) → reverse (drop k X) ≡ take (length X - k) (reverse X)
reverse-drop k X =
    let e = ap reverse (sym (take-append-drop k X)) ∙ reverse-append (take k X) (drop k X) in
    sym (ap (take (length X - k)) e ∙ take_at (reverse (drop k X)) (reverse (take k X)) (length X - k) (length-reverse (drop k X) ∙ length-drop k X))

-- from a line of n samples and fewer more
newest-few : (n : ℕ) (S xs : List Float) → length S ≡ n → reverse (drop (length xs) (reverse S ++ xs)) ≡ take n (reverse xs ++ S)
newest-few n S xs l =
    let c : length (reverse S ++ xs) - length xs ≡ n = omega (arith, length-append (reverse S) xs, length-reverse S, l) in
    reverse-drop (length xs) (reverse S ++ xs) ∙ ap₂ take c (reverse-append (reverse S) xs ∙ ap (λ (l : List Float). reverse xs ++ l) (reverse-reverse S))

-- of the line's places
pub newest-line : (n : ℕ) (S xs line : List Float) → length S ≡ n → take (n + length xs) line ≡ reverse S ++ xs
    → reverse (take (n + length xs - length xs) (drop (length xs) line)) ≡ take n (reverse xs ++ S)
newest-line n S xs line l e =
    ap reverse (between_is line (length xs) (n + length xs) ∙ ap (drop (length xs)) e) ∙ newest-few n S xs l

-- from n samples or more
pub newest-many : (n : ℕ) (S xs : List Float) → n ≤ length xs → reverse (drop (length xs - n) xs) ≡ take n (reverse xs ++ S)
newest-many n S xs h =
    let c : length xs - (length xs - n) ≡ n = omega arith in
    reverse-drop (length xs - n) xs ∙ ap (λ (z : ℕ). take z (reverse xs)) c ∙ sym (take-append-le n (reverse xs) S (omega (arith, length-reverse xs)))
