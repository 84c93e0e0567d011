-- A record that holds as many samples as it has taps, over many samples: its answers, how many of them are Clouded, and the record after them.
use mathlib.Core.Path.{◌≡◌, refl, sym, ap, ap₂, ◌∙◌}
use mathlib.Core.Bool.{Bool, true, false, not, ◌||◌, cond}
use mathlib.Core.List.{List, [], ◌∷◌, ◌++◌, reverse, reverse-cons, append_assoc}
use Prim.Native.Nat.{ℕ, zero, suc, ◌+◌, ◌≤◌, min}
use native.Mathlib.Omega.{arith}
use lib.Dec.{ltb}
use lib.ListN.{length, take, drop, take-append-drop}
use lib.Seq.{drop_at, length-take-le}
use lib.Ieee.{Float, Format}
use lib.Ieee.Scale.{finite}
use borrow.Author.Tests.{le-ltb, lt-ltb, ltb-true, ltb-false}
use Rattle.limits.specs.Zero.{plus_zero}
use Rattle.runs.specs.Runs.{Answer, not_all_finite, marked, clouded_in, written, is_clouded, answer, answers, after}
use Rattle.runs.proofs.Laws.{clouded-marked, placed-marked, answers-cons, after-cons}
use Rattle.fir_theory.specs.Fir.{TapsRecord, pushed, next, held_of, clouding, sum, value, mark, check_taps, fir}
use Rattle.fir_theory.specs.Blocks.{finite_run, age_after, clouds_from, values}
use Rattle.fir_theory.proofs.Laws.{sizes, check-next, take_more, take-pushed, length-pushed}

module _ (f : Format) (ts : List Float) (n : ℕ) where
  -- the answers to samples after a history, newest first
  unfoldable pub told : List Float → List Float → List Answer
  told L [] = []
  told L (x ∷ xs) = marked (not_all_finite (take n (x ∷ L))) (sum f plus_zero ts (take n (x ∷ L))) ∷ told (x ∷ L) xs

pub reverse-on : (x : Float) (xs L : List Float) → reverse (x ∷ xs) ++ L ≡ reverse xs ++ (x ∷ L)
reverse-on x xs L = ap (λ (l : List Float). l ++ L) (reverse-cons x xs) ∙ append_assoc (reverse xs) (x ∷ []) L

-- ---- a full record: it holds the newest n of a history
module _ (capacity : ℕ) (f : Format) (ts : List Float) (n : ℕ) where
  pub record Full (L : List Float) (r : TapsRecord) : Type 0 where
    pub good : check_taps capacity r ≡ true
    pub taps : r.taps ≡ ts
    pub counted : r.length ≡ n
    pub held : r.held ≡ n
    pub places : length r.samples ≡ capacity
    pub newest : take n r.samples ≡ take n L

  in-places : {L : List Float} {r : TapsRecord} → Full L r → n ≤ length r.samples
  in-places {L} {r} p = let z = sizes capacity r p.good in omega (arith, p.counted, p.places)

  newest-next : {L : List Float} {r : TapsRecord} (x : Float) → Full L r → take n (next r x).samples ≡ take n (x ∷ L)
  unfolding next
  newest-next {L} {r} x p = rw p.counted (take-pushed n n x r.samples (omega arith) (in-places p) ∙ take_more n x r.samples L p.newest)

  pub full-turn : {L : List Float} {r : TapsRecord} (x : Float) → Full L r → Full (x ∷ L) (next r x)
  unfolding next
  full-turn {L} {r} x p = record {
    good = check-next capacity r x p.good;
    taps = p.taps;
    counted = p.counted;
    held = omega (arith, p.held, p.counted);
    places = length-pushed r.length x r.samples (omega (arith, p.counted, in-places p)) ∙ p.places;
    newest = newest-next x p;
  }

  held_next : {L : List Float} {r : TapsRecord} (x : Float) → Full L r → held_of (next r x) ≡ take n (x ∷ L)
  unfolding held_of
  held_next {L} {r} x p = ap (λ (z : ℕ). take z (next r x).samples) (full-turn x p).held ∙ newest-next x p

  answer-full : {L : List Float} {r : TapsRecord} (x : Float) → Full L r → answer (fir capacity f) r x
      ≡ marked (not_all_finite (take n (x ∷ L))) (sum f plus_zero ts (take n (x ∷ L)))
  unfolding value mark clouding
  answer-full x p = ap₂ marked (ap not_all_finite (held_next x p)) (ap₂ (sum f plus_zero) p.taps (held_next x p))

  pub answers-full : {L : List Float} {r : TapsRecord} (xs : List Float) → Full L r → answers (fir capacity f) r xs ≡ told f ts n L xs
  unfolding answers told
  answers-full [] p = refl
  answers-full {L} {r} (x ∷ xs) p =
      answers-cons (fir capacity f) r x xs p.good ∙ ap₂ ◌∷◌ (answer-full x p) (answers-full {L = x ∷ L} {r = next r x} xs (full-turn x p))

  -- ---- the record after the samples: its first n places hold the newest, later places stay
  abbrev pub filled : List Float → TapsRecord → TapsRecord
  filled L r = record { taps = r.taps; samples = take n L ++ drop n r.samples; length = r.length; held = r.held; window = r.window }

  filled_next : (Z : List Float) {L : List Float} {r : TapsRecord} (x : Float) → Full L r → filled Z (next r x) ≡ filled Z r
  unfolding next pushed
  filled_next Z {L} {r} x p =
      let d : drop n (take n (x ∷ r.samples) ++ drop n r.samples)
      ≡ drop n r.samples = drop_at (take n (x ∷ r.samples)) (drop n r.samples) n (length-take-le n (x ∷ r.samples) (omega (arith, in-places p))) in
      let h : min (r.held + 1) r.length ≡ r.held = omega (arith, p.held, p.counted) in
      rw (h, p.counted, d)

  pub after-full : {L : List Float} {r : TapsRecord} (xs : List Float) → Full L r → after (fir capacity f) r xs ≡ filled (reverse xs ++ L) r
  unfolding after
  after-full {L} {r} [] p =
      let e : r.samples ≡ take n L ++ drop n r.samples = sym (take-append-drop n r.samples)
      ∙ ap (λ (l : List Float). l ++ drop n r.samples) p.newest in
      λ i. record { taps = r.taps; samples = e i; length = r.length; held = r.held; window = r.window }
  after-full {L} {r} (x ∷ xs) p =
      after-cons (fir capacity f) r x xs p.good ∙ after-full {L = x ∷ L} {r = next r x} xs (full-turn x p)
      ∙ filled_next (reverse xs ++ (x ∷ L)) x p ∙ ap (λ (l : List Float). filled l r) (sym (reverse-on x xs L))

-- ---- the places of a block's output
pub written-told : (f : Format) (ts : List Float) (n : ℕ) (L xs output : List Float) → length xs ≤ length output → written (told f ts n L xs) output
    ≡ values f ts n L xs ++ drop (length xs) output
unfolding written told values
written-told f ts n L [] output h = refl
written-told f ts n L (x ∷ xs) [] h = absurd (omega arith)
written-told f ts n L (x ∷ xs) (y ∷ output) h =
    ap₂ ◌∷◌ (placed-marked (not_all_finite (take n (x ∷ L))) (sum f plus_zero ts (take n (x ∷ L))) y) (written-told f ts n (x ∷ L) xs output (omega arith))

-- ---- the count
suc-ltb : (a b : ℕ) → ltb a b ≡ ltb (suc a) (suc b)
suc-ltb a b = go (ltb a b) refl
  where
    go : (t : Bool) → ltb a b ≡ t → t ≡ ltb (suc a) (suc b)
    go true e = sym (lt-ltb (suc a) (suc b) (omega (arith, ltb-true a b e)))
    go false e = sym (le-ltb (suc a) (suc b) (omega (arith, ltb-false a b e)))

run-finite : (n : ℕ) (L : List Float) → n ≤ length L → not_all_finite (take n L) ≡ ltb (finite_run L) n
unfolding not_all_finite finite_run
run-finite zero L h = sym (le-ltb (finite_run L) 0 (omega arith))
run-finite (suc n) [] h = absurd (omega arith)
run-finite (suc n) (x ∷ L) h = go (finite x) (run-finite n L (omega arith))
  where
    go : (b : Bool) → not_all_finite (take n L) ≡ ltb (finite_run L) n → (not b || not_all_finite (take n L)) ≡ ltb (cond b (suc (finite_run L)) 0) (suc n)
    go true e = e ∙ suc-ltb (finite_run L) n
    go false e = sym (lt-ltb 0 (suc n) (omega arith))

age-is : (n : ℕ) (L : List Float) (x : Float) → min (finite_run (x ∷ L)) n ≡ age_after n (min (finite_run L) n) x
unfolding finite_run
age-is n L x = go (finite x)
  where
    go : (b : Bool) → min (cond b (suc (finite_run L)) 0) n ≡ cond b (min (min (finite_run L) n + 1) n) 0
    go true = omega arith
    go false = omega arith

pub capped-ltb : (a n : ℕ) → ltb a n ≡ ltb (min a n) n
capped-ltb a n = go (ltb a n) refl
  where
    go : (t : Bool) → ltb a n ≡ t → t ≡ ltb (min a n) n
    go true e = sym (lt-ltb (min a n) n (omega (arith, ltb-true a n e)))
    go false e = sym (le-ltb (min a n) n (omega (arith, ltb-false a n e)))

pub count-told : (f : Format) (ts : List Float) (n : ℕ) (L xs : List Float) → n ≤ length L → clouded_in (told f ts n L xs)
    ≡ clouds_from n (min (finite_run L) n) xs
unfolding clouded_in told clouds_from
count-told f ts n L [] h = refl
count-told f ts n L (x ∷ xs) h =
    let e : is_clouded (marked (not_all_finite (take n (x ∷ L))) (sum f plus_zero ts (take n (x ∷ L)))) ≡ ltb (age_after n (min (finite_run L) n) x) n =
    clouded-marked (not_all_finite (take n (x ∷ L))) (sum f plus_zero ts (take n (x ∷ L))) ∙ run-finite n (x ∷ L) (omega arith)
    ∙ capped-ltb (finite_run (x ∷ L)) n
    ∙ ap (λ (z : ℕ). ltb z n) (age-is n L x) in
    ap₂ (λ (b : Bool) (z : ℕ). cond b 1 0 + z) e (count-told f ts n (x ∷ L) xs (omega arith) ∙ ap (λ (z : ℕ). clouds_from n z xs) (age-is n L x))

-- ---- a record fills up
pub held_after : (capacity : ℕ) (f : Format) (r : TapsRecord) (xs : List Float) → check_taps capacity r ≡ true
    → ((after (fir capacity f) r xs).held ≡ min (r.held + length xs) r.length) × ((after (fir capacity f) r xs).length ≡ r.length)
unfolding after next
held_after capacity f r [] h = (omega (arith, sizes capacity r h), refl)
held_after capacity f r (x ∷ xs) h =
    let e = after-cons (fir capacity f) r x xs h in
    let p = held_after capacity f (next r x) xs (check-next capacity r x h) in
    (ap (λ (k : TapsRecord). k.held) e ∙ p.0 ∙ omega arith, ap (λ (k : TapsRecord). k.length) e ∙ p.1)
