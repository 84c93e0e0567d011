-- Loops over taps and samples, the check, and what the functions return.
use mathlib.Core.Path.{◌≡◌, refl, sym, ap, ◌∙◌, subst}
use mathlib.Core.Bool.{Bool, true, false, ◌&&◌, cond, false≢true, beq}
use mathlib.Core.List.{List, [], ◌∷◌, ◌++◌, append-nil}
use Prim.Native.Nat.{ℕ, zero, suc, ◌+◌, ◌<◌, ◌≤◌, min}
use native.Mathlib.Numerals.{add-one}
use native.Mathlib.Omega.{arith}
use lib.Dec.{leb, eqb}
use lib.ListN.{length, take, drop, get_or, set, length-take, length-append, length-drop, length-replicate, replicate, drop_of_length-le}
use lib.Seq.{take-nil, drop-cons, length-take-le, get_or-take, take_all, take-append-le, take-take}
use lib.Ieee.{Float, nan, inf, fin, unlike, Format, add, mul}
use lib.Ieee.Scale.{finite}
use borrow.Author.Tests.{leb-true, le-leb, le-ltb, eq-eqb, ne_eqb, eqb-true}
use Rattle.runs.specs.Refusals.{no_refusal, order_refused}
use Rattle.std.specs.List.{fold, zip}
use Rattle.limits.specs.Zero.{plus_zero}
use Rattle.runs.specs.Runs.{Answer, not_all_finite, marked, Step, Reset, step}
use Rattle.runs.specs.Lent.{lent_refusal, lent_reset}
use Rattle.runs.specs.View.{number}
use Rattle.runs.specs.declared.refusal.Refusal.{Refusal}
use Rattle.runs.proofs.Laws.{step-answered, reset-done}
use Rattle.runs.proofs.Default.{number_above_zero}
use Rattle.runs.proofs.Lent.{lent-good, refusal-unfit, refusal-unchecked, refusal-none, lent-reset}
use Rattle.lists.specs.Copies.{copied}
use Rattle.lists.specs.Lists.{Each}
use Rattle.lists.proofs.Each.{each_take}
use Rattle.lists.proofs.Overwriting.{Overwriting, overwrite-turn, overwrite-ahead, overwrite-all}
use Rattle.lists.proofs.Folding.{front-turn, front-done}
use Rattle.lists.proofs.Places.{drop-replicate}
use Rattle.lists.proofs.Tests.{both}
use Rattle.fir_theory.specs.Lent.{lent_taps, fits}
use Rattle.fir_theory.specs.Fir.{TapsRecord, ready_made, pushed, next, held_of, clouding, sum, value, mark, check_taps, zeros, cleared_taps, fir}
use Rattle.fir_theory.specs.Fir.{holding, FirDesignRecord, from_coeffs}

-- ---- the loop that pushes among all samples: i places are done, and carried is what goes next
abbrev pub Pushing : List Float → Float → List Float → Float → ℕ → Type 0
Pushing s₀ x s carried i = Overwriting s₀ 0 (take (length s₀) (x ∷ s₀)) (length s₀) s i × (carried ≡ get_or (x ∷ s₀) i nan)

-- what is pushed among all of the samples
pub pushed_all : (x : Float) (s : List Float) → pushed (length s) x s ≡ take (length s) (x ∷ s)
unfolding pushed
pushed_all x s = ap (λ (l : List Float). take (length s) (x ∷ s) ++ l) (drop_of_length-le s {i = length s} (omega arith)) ∙ append-nil (take (length s) (x ∷ s))

-- the newest after one sample more
pub take_more : (m : ℕ) (x : Float) (a b : List Float) → take m a ≡ take m b → take m (x ∷ a) ≡ take m (x ∷ b)
take_more zero x a b e = refl
take_more (suc m) x a b e = ap (λ (l : List Float). x ∷ l) (sym (take-take m (suc m) a (omega arith)) ∙ ap (take m) e ∙ take-take m (suc m) b (omega arith))

-- what is pushed among the first n of them, which later places follow
pub pushed_front : (n : ℕ) (x : Float) (s : List Float) {t : List Float} → n ≤ length s → t ≡ pushed (length (take n s)) x (take n s)
    → t ++ drop n s ≡ pushed n x s
unfolding pushed
pushed_front n x s h e = let l = length-take-le n s h in
    rw (e, pushed_all x (take n s), l) (ap (λ (z : List Float). z ++ drop n s) (take_more n x (take n s) s (take-take n n s (omega arith))))

module _ (s₀ : List Float) (x : Float) where
  pub push-turn : {s : List Float} {carried : Float} (i : ℕ) → i < length s₀ → Pushing s₀ x s carried i
      → Pushing s₀ x (set s i carried) (get_or s i nan) (i + 1)
  push-turn i h p =
      let v = p.1 ∙ sym (get_or-take (length s₀) (x ∷ s₀) i nan h) in
      (overwrite-turn i i nan (omega arith) h v p.0, rw add-one (overwrite-ahead i i nan (omega arith) h p.0))

  pub push-done : {s : List Float} {carried : Float} (i : ℕ) → length s₀ ≤ i → Pushing s₀ x s carried i → s ≡ pushed (length s₀) x s₀
  push-done i h p = overwrite-all i h refl p.0 ∙ sym (pushed_all x s₀)

-- the newest m of the places after a push
pub take-pushed : (m n : ℕ) (x : Float) (xs : List Float) → m ≤ n → n ≤ length xs → take m (pushed n x xs) ≡ take m (x ∷ xs)
unfolding pushed
take-pushed m n x xs h k =
    let l : m ≤ length (take n (x ∷ xs)) = simp length-take (omega arith) in
    rw (take-append-le m (take n (x ∷ xs)) (drop n xs) l) (take-take m n (x ∷ xs) h)

-- what holds of each held sample and of x holds of each that is held after x
pub held_next : (P : Float → Type 0) (r : TapsRecord) (x : Float) → r.length ≤ length r.samples → Each P (held_of r) → P x → Each P (held_of (next r x))
unfolding held_of next
held_next P r x l h p =
    let k = min (r.held + 1) r.length in
    let held = x ∷ take r.held r.samples in
    let is : take k held ≡ take k (pushed r.length x r.samples) =
    take-take k (suc r.held) (x ∷ r.samples) (omega arith) ∙ sym (take-pushed k r.length x r.samples (omega arith) l) in
    subst (Each P) is (each_take P k held (p, h))

pub length-pushed : (n : ℕ) (x : Float) (xs : List Float) → n ≤ length xs → length (pushed n x xs) ≡ length xs
unfolding pushed
length-pushed n x xs h = simp (length-append, length-take, length-drop) (omega arith)

-- ---- the loop that sums: what is left to add to y
abbrev pub Summing : Format → List Float → List Float → Float → ℕ → Type 0
Summing f ts xs y i = sum f y (drop i ts) (drop i xs) ≡ sum f plus_zero ts xs

pub sum-turn : (f : Format) (ts s : List Float) (y : Float) (n i : ℕ) → i < n → n ≤ length ts → n ≤ length s → Summing f ts (take n s) y i
    → Summing f ts (take n s) (add f y (mul f (get_or ts i nan) (get_or s i nan))) (i + 1)
unfolding sum
sum-turn f ts s y n i h ht hs p =
    front-turn (sum f y (drop i ts)) s i n (sum f (add f y (mul f (get_or ts i nan) (get_or s i nan))) (drop (i + 1) ts)) nan h hs
    (λ rest. rw (drop-cons ts i nan (omega arith), add-one)) p

-- a sum with one product more, and all of them as a fold of the pairs
abbrev pub add_product : Format → Float → Float × Float → Float
add_product f y p = add f y (mul f p.0 p.1)

pub sum-fold : (f : Format) (y : Float) (ts xs : List Float) → fold (add_product f) y (zip ts xs) ≡ sum f y ts xs
unfolding sum
sum-fold f y [] xs = refl
sum-fold f y (t ∷ ts) [] = refl
sum-fold f y (t ∷ ts) (x ∷ xs) = sum-fold f (add f y (mul f t x)) ts xs

pub sum-none : (f : Format) (ts : List Float) (y : Float) → sum f y ts [] ≡ y
unfolding sum
sum-none f [] y = refl
sum-none f (t ∷ ts) y = refl

-- taps beyond the samples count for nothing
pub sum-taps : (f : Format) (y : Float) (n : ℕ) (ts xs : List Float) → length xs ≤ n → sum f y (take n ts) xs ≡ sum f y ts xs
unfolding sum
sum-taps f y n ts [] h = sum-none f (take n ts) y ∙ sym (sum-none f ts y)
sum-taps f y n [] (x ∷ xs) h = rw (take-nil n)
sum-taps f y zero (t ∷ ts) (x ∷ xs) h = absurd (omega arith)
sum-taps f y (suc n) (t ∷ ts) (x ∷ xs) h = sum-taps f (add f y (mul f t x)) n ts xs (omega arith)

pub sum_done : (f : Format) (ts s : List Float) (y : Float) (n i : ℕ) → n ≤ i → Summing f ts (take n s) y i → y ≡ sum f plus_zero ts (take n s)
sum_done f ts s y n i k p = sym (sum-none f (drop i ts) y) ∙ front-done (sum f y (drop i ts)) s i n k p

-- ---- a sum that is finite has finite samples alone
neither : (b : Bool) (x y : Float) → finite x ≡ false → finite y ≡ false → finite (cond b x y) ≡ true → ⊥
neither true x y h k e = false≢true (sym h ∙ e)
neither false x y h k e = false≢true (sym k ∙ e)

add-finite : (f : Format) (a b : Float) → finite (add f a b) ≡ true → (finite a ≡ true) × (finite b ≡ true)
unfolding add
add-finite f nan b e = absurd (false≢true e)
add-finite f (inf s) nan e = absurd (false≢true e)
add-finite f (inf s) (inf t) e = absurd (neither (beq s t) (inf s) nan refl refl e)
add-finite f (inf s) (fin t n d) e = absurd (false≢true e)
add-finite f (fin s m d) nan e = absurd (false≢true e)
add-finite f (fin s m d) (inf t) e = absurd (false≢true e)
add-finite f (fin s m d) (fin t n g) e = (refl, refl)

mul-finite : (f : Format) (a b : Float) → finite (mul f a b) ≡ true → finite b ≡ true
unfolding mul
mul-finite f nan b e = absurd (false≢true e)
mul-finite f (inf s) nan e = absurd (false≢true e)
mul-finite f (inf s) (inf t) e = absurd (false≢true e)
mul-finite f (inf s) (fin t n d) e = refl
mul-finite f (fin s m d) nan e = absurd (false≢true e)
mul-finite f (fin s m d) (inf t) e = absurd (neither (eqb m 0) nan (inf (unlike s t)) refl refl e)
mul-finite f (fin s m d) (fin t n g) e = refl

sum-finite : (f : Format) (y : Float) (ts xs : List Float) → length xs ≤ length ts → finite (sum f y ts xs) ≡ true → (finite y ≡ true)
    × (not_all_finite xs ≡ false)
unfolding sum not_all_finite
sum-finite f y ts [] h e = (rw (sum-none f ts y) at e, refl)
sum-finite f y [] (x ∷ xs) h e = absurd (omega arith)
sum-finite f y (t ∷ ts) (x ∷ xs) h e =
    let p = sum-finite f (add f y (mul f t x)) ts xs (omega arith) e in
    let a = add-finite f y (mul f t x) p.0 in
    (a.0, rw (mul-finite f t x a.1) p.1)

pub finite_clear : (f : Format) (y : Float) (ts xs : List Float) → length xs ≤ length ts → y ≡ sum f plus_zero ts xs → finite y ≡ true
    → clouding ts xs ≡ false
unfolding clouding
finite_clear f y ts xs h e g = (sum-finite f plus_zero ts xs h (rw e at g)).1

-- ---- the check: what a record that passes it has
pub record Sizes (capacity n held : ℕ) : Type 0 where
  pub some : 1 ≤ n
  pub within : n ≤ capacity
  pub few : held ≤ n

pub sizes : (capacity : ℕ) (r : TapsRecord) → check_taps capacity r ≡ true → Sizes capacity r.length r.held
unfolding check_taps
sizes capacity r h =
    let p = both (leb 1 r.length && leb r.length capacity) (leb r.held r.length && leb r.window ready_made) h in
    let q = both (leb 1 r.length) (leb r.length capacity) p.0 in
    record {
      some = leb-true 1 r.length q.0;
      within = leb-true r.length capacity q.1;
      few = leb-true r.held r.length (both (leb r.held r.length) (leb r.window ready_made) p.1).0;
    }

-- and what has it passes, if the code is a window's
checked : (capacity : ℕ) (r : TapsRecord) → Sizes capacity r.length r.held → leb r.window ready_made ≡ true → check_taps capacity r ≡ true
unfolding check_taps
checked capacity r z w = rw (le-leb 1 r.length z.some, le-leb r.length capacity z.within, le-leb r.held r.length z.few, w)

window-in : (capacity : ℕ) (r : TapsRecord) → check_taps capacity r ≡ true → leb r.window ready_made ≡ true
unfolding check_taps
window-in capacity r h =
    (both (leb r.held r.length) (leb r.window ready_made)
    (both (leb 1 r.length && leb r.length capacity) (leb r.held r.length && leb r.window ready_made) h).1).1

-- a sample leaves the record good
pub check-next : (capacity : ℕ) (r : TapsRecord) (x : Float) → check_taps capacity r ≡ true → check_taps capacity (next r x) ≡ true
unfolding next
check-next capacity r x h =
    let z = sizes capacity r h in
    checked capacity (next r x) (record { some = z.some; within = z.within; few = omega arith }) (window-in capacity r h)

-- and so does a reset
pub check-cleared : (capacity : ℕ) (r : TapsRecord) → check_taps capacity r ≡ true → check_taps capacity (cleared_taps capacity r) ≡ true
unfolding cleared_taps
check-cleared capacity r h =
    let z = sizes capacity r h in
    checked capacity (cleared_taps capacity r) (record { some = z.some; within = z.within; few = omega arith }) (window-in capacity r h)

-- ---- lent records
pub fits-lengths : (capacity : ℕ) (r : TapsRecord) → fits capacity r ≡ true → (length r.taps ≡ capacity) × (length r.samples ≡ capacity)
unfolding fits
fits-lengths capacity r h =
    let p = both (eqb (length r.taps) capacity) (eqb (length r.samples) capacity) h in
    (eqb-true (length r.taps) capacity p.0, eqb-true (length r.samples) capacity p.1)

pub lengths-fit : (capacity : ℕ) (r : TapsRecord) → length r.taps ≡ capacity → length r.samples ≡ capacity → fits capacity r ≡ true
unfolding fits
lengths-fit capacity r h k = rw (eq-eqb (length r.taps) capacity h, eq-eqb (length r.samples) capacity k)

pub rooms : (capacity : ℕ) (r : TapsRecord) → fits capacity r ≡ true → check_taps capacity r ≡ true → (r.length ≤ length r.taps)
    × (r.length ≤ length r.samples) × (r.held ≤ r.length)
rooms capacity r h k = let l = fits-lengths capacity r h in
    let z = sizes capacity r k in
    (omega (arith, l.0, z), omega (arith, l.1, z), z.few)

-- a sample leaves the places as many
pub fits_next : (capacity : ℕ) (r : TapsRecord) (x : Float) → fits capacity r ≡ true → check_taps capacity r ≡ true → fits capacity (next r x) ≡ true
unfolding fits next
fits_next capacity r x h k =
    let l = fits-lengths capacity r h in
    let z = rooms capacity r h k in
    rw (length-pushed r.length x r.samples z.1, eq-eqb (length r.taps) capacity l.0, eq-eqb (length r.samples) capacity l.1)

-- ---- what refuses a lent record
pub numbered : (n : Refusal) → number n ≡ no_refusal → ⊥
numbered n e = omega (arith, number_above_zero n, e)

-- a test that refuses holds
pub refusing : (b : Bool) {n : ℕ} (r : Refusal) → number r ≡ cond b n no_refusal → (b ≡ true) × (number r ≡ n)
refusing true r e = (refl, e)
refusing false r e = absurd (numbered r e)

-- for `grind`
pub ruleset refusals = (number_above_zero, refusal-unfit, refusal-unchecked, refusal-none)

module _ (f : Format) (capacity : ℕ) (r : TapsRecord) where
  -- what is not refused
  pub not-refused : no_refusal ≡ lent_refusal (fir capacity f) (fits capacity) r → (fits capacity r ≡ true) × (check_taps capacity r ≡ true)
  not-refused e = lent-good (fir capacity f) (fits capacity) r (λ w. omega arith) (sym e)

  pub pass-is : (x : Float) {s : List Float} {h : ℕ} {a : Answer} → check_taps capacity r ≡ true → s ≡ pushed r.length x r.samples
      → h ≡ min (r.held + 1) r.length → a ≡ marked (clouding r.taps (take h s)) (sum f plus_zero r.taps (take h s))
      → ◌≡◌ {A = Step TapsRecord} (record { answer = a; state = lent_taps r.taps s r.length h r.window }) (step (fir capacity f) r x)
  unfolding next held_of value mark
  pass-is x good es eh ea = step-answered (fir capacity f) r x good (ea ∙ rw (es, eh)) (rw (es, eh))

  pub reset-is : {s : List Float} → fits capacity r ≡ true → check_taps capacity r ≡ true → s ≡ replicate (length r.samples) plus_zero
      → ◌≡◌ {A = Reset TapsRecord} (record { refusal = no_refusal; state = lent_taps r.taps s r.length 0 r.window })
      (lent_reset (fir capacity f) (fits capacity) r)
  unfolding cleared_taps
  reset-is fit good e = reset-done (fir capacity f) r good (rw (e, (fits-lengths capacity r fit).1)) ∙ sym (lent-reset (fir capacity f) (fits capacity) r fit)

-- ---- ready-made taps
module _ (capacity : ℕ) (ts : List Float) where
  pub made : {l s : List Float} → 1 ≤ length ts → length ts ≤ capacity → s ≡ zeros capacity → l ≡ copied ts (zeros capacity)
      → ◌≡◌ {A = FirDesignRecord}
      (record { refusal = no_refusal; filter = record { taps = l; samples = s; length = length ts; held = 0; window = ready_made } })
      (from_coeffs capacity ts)
  unfolding from_coeffs order_refused holding copied
  made h k es e =
      rw (ne_eqb (length ts) 0 (λ z. omega arith), le-ltb capacity (length ts) k, e, es, length-replicate, take_all capacity ts k, drop-replicate)
