-- Laws of a step, a reset and a block, for any filter: what a function shows where it returns, and the loop of a block; and of refusal 1.
use mathlib.Core.Path.{◌≡◌, refl, sym, ap, ap₂, ◌∙◌}
use mathlib.Core.Bool.{Bool, true, false, cond, true≢false}
use mathlib.Core.List.{List, [], ◌∷◌, ◌++◌, append_assoc, append-nil}
use Prim.Native.Nat.{ℕ, zero, suc, ◌+◌, ◌<◌, ◌≤◌}
use native.Mathlib.Nat.{zero-lt-suc, zero-add, add-zero}
use native.Mathlib.Numerals.{add-one}
use native.Mathlib.Omega.{arith}
use lib.Dec.{eqb, ltb}
use lib.ListN.{length, get_or, set, take, drop, length-set, length-append, length-take, length-drop, take-append-drop, drop_of_length-le}
use lib.Seq.{drop-cons, take-suc-set, drop-set-lt, drop-drop, length-take-le, take_at, drop_at}
use borrow.Author.Tests.{ltb-false, lt-ltb, le-ltb}
use Rattle.lists.proofs.Places.{part_length}
use Rattle.lists.proofs.Tests.{neither}
use Rattle.runs.specs.Refusals.{order_refused, short_output}
use lib.Ieee.{Float, nan}
use Rattle.runs.specs.Runs.{Answer, Step, refused, marked, is_clouded, number_of, refusal_of, clouded_in, placed, written, Filter, Reset, Block, refused_block}
use Rattle.runs.specs.Runs.{Fresh, answer, step, reset, answers, after, block}

-- ---- an answer with a mark
pub number-marked : (b : Bool) (y : Float) → number_of (marked b y) ≡ y
number-marked true y = refl
number-marked false y = refl

pub clouded-marked : (b : Bool) (y : Float) → is_clouded (marked b y) ≡ b
clouded-marked true y = refl
clouded-marked false y = refl

pub placed-marked : (b : Bool) (y old : Float) → placed (marked b y) old ≡ y
placed-marked true y old = refl
placed-marked false y old = refl

pub marked-accepted : (b : Bool) (y : Float) → refusal_of (marked b y) ≡ 0
marked-accepted true y = refl
marked-accepted false y = refl

module _ (F : Filter) (s : F.State) where
  pub answer-is : (x : Float) {y : Float} {m : Bool} (b : Bool) → y ≡ F.value s x → m ≡ F.mark s x → m ≡ b → marked b y ≡ answer F s x
  answer-is x b v k e = ap₂ marked (sym e ∙ k) v

  pub step-refused : (x : Float) → F.check s ≡ false → record { answer = refused F.refusal; state = s } ≡ step F s x
  unfolding step
  step-refused x h = rw h

  pub step-answered : (x : Float) {a : Answer} {s' : F.State} → F.check s ≡ true → a ≡ answer F s x → s' ≡ F.next s x → record { answer = a; state = s' }
      ≡ step F s x
  unfolding step
  step-answered x h e n = rw (h, e, n)

  pub reset-refused : F.check s ≡ false → record { refusal = F.refusal; state = s } ≡ reset F s
  unfolding reset
  reset-refused h = rw h

  pub reset-done : {s' : F.State} → F.check s ≡ true → s' ≡ F.cleared s → record { refusal = 0; state = s' } ≡ reset F s
  unfolding reset
  reset-done h e = rw (h, e)

  pub step_is : (x : Float) → F.check s ≡ true → step F s x ≡ record { answer = answer F s x; state = F.next s x }
  unfolding step
  step_is x h = rw h

  -- the first of some samples
  pub answers-cons : (x : Float) (xs : List Float) → F.check s ≡ true → answers F s (x ∷ xs) ≡ answer F s x ∷ answers F (F.next s x) xs
  unfolding answers
  answers-cons x xs h = rw (step_is x h)

  pub after-cons : (x : Float) (xs : List Float) → F.check s ≡ true → after F s (x ∷ xs) ≡ after F (F.next s x) xs
  unfolding after
  after-cons x xs h = rw (step_is x h)

  pub block_refused : (input output : List Float) → F.check s ≡ false → refused_block F.refusal s output ≡ block F s input output
  unfolding block
  block_refused input output h = rw h

  pub block-is : (input output : List Float) → F.check s ≡ true → length input ≤ length output
      → block F s input output ≡ record {
        refusal = 0;
        clouded = clouded_in (answers F s input);
        state = after F s input;
        output = written (answers F s input) output;
      }
  unfolding block
  block-is input output h l = rw (h, le-ltb (length output) (length input) l)

  pub block-short : (input output : List Float) → F.check s ≡ true → length output < length input → refused_block short_output s output ≡ block F s input output
  unfolding block
  block-short input output h l = rw (h, lt-ltb (length output) (length input) l)

-- an accepted reset returns a fresh record, if what a reset makes of a good record is fresh and no refusal has the number 0
pub reset-fresh : (F : Filter) (s : F.State) → (F.refusal ≡ 0 → ⊥) → (F.check s ≡ true → Fresh F (F.cleared s)) → (reset F s).refusal ≡ 0
    → Fresh F (reset F s).state
unfolding reset
reset-fresh F s numbered fresh = go (F.check s) refl
  where
    done : Bool → Reset F.State
    done b = cond b (record { refusal = 0; state = F.cleared s }) (record { refusal = F.refusal; state = s })

    go : (b : Bool) → F.check s ≡ b → (done b).refusal ≡ 0 → Fresh F (done b).state
    go true e r = fresh e
    go false e r = absurd (numbered r)

-- ---- single steps over an input, of any record: sample i is next, and the answers so far stand in the output
pub record Stepping (F : Filter) (s₀ : F.State) (input output₀ : List Float) (s : F.State) (output : List Float) (i : ℕ) : Type 0 where
  pub same : length output ≡ length output₀
  pub places : take i output ++ written (answers F s (drop i input)) (drop i output) ≡ written (answers F s₀ input) output₀

module _ (F : Filter) (s₀ : F.State) (input output₀ : List Float) where
  pub steps-turn : {s s' : F.State} {output : List Float} {i : ℕ} {a : Answer} {y : Float} → i < length input → i < length output
      → record { answer = a; state = s' } ≡ step F s (get_or input i nan) → y ≡ placed a (get_or output i nan) → Stepping F s₀ input output₀ s output i
      → Stepping F s₀ input output₀ s' (set output i y) (i + 1)
  unfolding answers written
  steps-turn {s} {s'} {output} {i} {a} {y} h k e ey p =
      let d = drop-cons input i nan h in
      let o = drop-cons output i nan k in
      record {
        same = rw length-set p.same;
        places = rw (add-one, take-suc-set output i y k, drop-set-lt (suc i) output i y (omega arith), append_assoc) (rw (d, o, ← e, ← ey) at p.places);
      }

  pub steps-done : {s : F.State} {output : List Float} {i : ℕ} → length input ≤ i → Stepping F s₀ input output₀ s output i → output
      ≡ written (answers F s₀ input) output₀
  unfolding answers written
  steps-done {s} {output} {i} h p =
      let z = drop_of_length-le input {i = i} h in
      sym (take-append-drop i output) ∙ (rw z at p.places)

-- ---- the loop of a block

-- a count with one more where the mark is set
abbrev pub tallied : Bool → ℕ → ℕ
tallied b n = cond b (n + 1) n

-- the loop of a block before sample i, whose answers so far stand in the output: what is left to do does the rest of the block
pub record Running (F : Filter) (s₀ : F.State) (input output₀ : List Float) (s : F.State) (output : List Float) (clouded i : ℕ) : Type 0 where
  pub within : i ≤ length input
  pub room : length input ≤ length output
  pub few : clouded ≤ i
  pub good : F.check s ≡ true
  pub state : after F s (drop i input) ≡ after F s₀ input
  pub count : clouded + clouded_in (answers F s (drop i input)) ≡ clouded_in (answers F s₀ input)
  pub places : take i output ++ written (answers F s (drop i input)) (drop i output) ≡ written (answers F s₀ input) output₀
  pub same : length output ≡ length output₀

steps_of : {F : Filter} {s₀ s : F.State} {input output₀ output : List Float} {clouded i : ℕ} → Running F s₀ input output₀ s output clouded i
    → Stepping F s₀ input output₀ s output i
steps_of p = record { same = p.same; places = p.places }

tallied-few : (b : Bool) (n i : ℕ) → n ≤ i → tallied b n ≤ i + 1
tallied-few true n i h = omega arith
tallied-few false n i h = omega arith

tallied-more : (b : Bool) (y : Float) (n m : ℕ) → tallied b n + m ≡ n + (cond (is_clouded (marked b y)) 1 0 + m)
tallied-more true y n m = omega arith
tallied-more false y n m = omega arith

module _ (F : Filter) (keeps : (s : F.State) (x : Float) → F.check s ≡ true → F.check (F.next s x) ≡ true) (s₀ : F.State) (input output₀ : List Float)
  where
    pub run-start : length input ≤ length output₀ → F.check s₀ ≡ true → Running F s₀ input output₀ s₀ output₀ 0 0
    run-start h e = record {
      within = omega arith;
      room = h;
      few = omega arith;
      good = e;
      state = refl;
      count = rw zero-add;
      places = refl;
      same = refl;
    }

    -- one sample: y is its number and b its mark
    pub run-turn : {s s' : F.State} {output : List Float} {clouded clouded' i : ℕ} {y : Float} {b : Bool} → i < length input
        → y ≡ F.value s (get_or input i nan) → b ≡ F.mark s (get_or input i nan) → s' ≡ F.next s (get_or input i nan) → clouded' ≡ tallied b clouded
        → Running F s₀ input output₀ s output clouded i → Running F s₀ input output₀ s' (set output i y) clouded' (i + 1)
    unfolding clouded_in
    run-turn {s} {s'} {output} {clouded} {clouded'} {i} {y} {b} h ey eb es ec p =
        let x = get_or input i nan in
        let d = drop-cons input i nan h in
        let q : Stepping F s₀ input output₀ s' (set output i y) (i + 1) =
        steps-turn F s₀ input output₀ h (omega (arith, p.room)) (step-answered F s x p.good refl es) (rw placed-marked ey) (steps_of p) in
        let a = answers-cons F s x (drop (suc i) input) p.good in
        record {
          within = omega arith;
          room = rw length-set p.room;
          few = rw ec (tallied-few b clouded i p.few);
          good = rw es (keeps s x p.good);
          state = rw (es, add-one) (sym (after-cons F s x (drop (suc i) input) p.good) ∙ (rw d at p.state));
          count = rw (ec, es, add-one i) (tallied-more b y clouded (clouded_in (answers F (F.next s x) (drop (suc i) input)))
              ∙ (rw (d, a, ← eb, ← ey) at p.count));
          places = q.places;
          same = q.same;
        }

    pub run-done : {s : F.State} {output : List Float} {clouded i : ℕ} → length input ≤ i → F.check s₀ ≡ true → length input ≤ length output₀
        → Running F s₀ input output₀ s output clouded i → ◌≡◌ {A = Block
        F.State} (record { refusal = 0; clouded = clouded; state = s; output = output }) (block F s₀ input output₀)
    unfolding answers after clouded_in block
    run-done {s} {output} {clouded} {i} h e k p =
        let z = drop_of_length-le input {i = i} h in
        let l : s ≡ after F s₀ input = rw z at p.state in
        let m : clouded ≡ clouded_in (answers F s₀ input) = sym (add-zero clouded) ∙ (rw z at p.count) in
        let o = steps-done F s₀ input output₀ h (steps_of p) in
        rw (e, le-ltb (length output₀) (length input) k, ← l, ← m, ← o)

-- what a step of a good record returns, part by part
pub step-parts : (F : Filter) (s : F.State) (x : Float) {a : Answer} {s' : F.State} → F.check s ≡ true → record { answer = a; state = s' } ≡ step F s x
    → (number_of a ≡ F.value s x) × (is_clouded a ≡ F.mark s x) × (s' ≡ F.next s x)
step-parts F s x {a} {s'} h e =
    let p = e ∙ step_is F s x h in
    let q : a ≡ answer F s x = ap (λ (z : Step F.State). z.answer) p in (
      ap number_of q ∙ number-marked (F.mark s x) (F.value s x),
      ap is_clouded q ∙ clouded-marked (F.mark s x) (F.value s x),
      ap (λ (z : Step F.State). z.state) p,
    )

-- an order, or a number of taps, that is not refused
pub good-order : (n most : ℕ) → order_refused n most ≡ false → (0 < n) × (n ≤ most)
unfolding order_refused
good-order zero most e = absurd (true≢false e)
good-order (suc n) most e = (zero-lt-suc n, ltb-false most (suc n) (neither (eqb (suc n) 0) (ltb most (suc n)) e).1)

-- ---- a block in two parts
module _ (F : Filter) (keeps : (s : F.State) (x : Float) → F.check s ≡ true → F.check (F.next s x) ≡ true) where
  pub check-after : (s : F.State) (xs : List Float) → F.check s ≡ true → F.check (after F s xs) ≡ true
  unfolding after
  check-after s [] h = h
  check-after s (x ∷ xs) h = rw (step_is F s x h) (check-after (F.next s x) xs (keeps s x h))

  answers-append : (s : F.State) (xs ys : List Float) → answers F s (xs ++ ys) ≡ answers F s xs ++ answers F (after F s xs) ys
  unfolding answers after
  answers-append s [] ys = refl
  answers-append s (x ∷ xs) ys = ap (λ (l : List Answer). (step F s x).answer ∷ l) (answers-append (step F s x).state xs ys)

  after-append : (s : F.State) (xs ys : List Float) → after F s (xs ++ ys) ≡ after F (after F s xs) ys
  unfolding after
  after-append s [] ys = refl
  after-append s (x ∷ xs) ys = after-append (step F s x).state xs ys

  answers-length : (s : F.State) (xs : List Float) → length (answers F s xs) ≡ length xs
  unfolding answers
  answers-length s [] = refl
  answers-length s (x ∷ xs) = ap suc (answers-length (step F s x).state xs)

clouded-append : (a b : List Answer) → clouded_in (a ++ b) ≡ clouded_in a + clouded_in b
unfolding clouded_in
clouded-append [] b = sym (zero-add (clouded_in b))
clouded-append (x ∷ a) b = omega (arith, clouded-append a b)

few-clouded : (a : List Answer) → clouded_in a ≤ length a
unfolding clouded_in
few-clouded [] = omega arith
few-clouded (x ∷ a) = go (is_clouded x) (few-clouded a)
  where
    go : (b : Bool) → clouded_in a ≤ length a → cond b 1 0 + clouded_in a ≤ suc (length a)
    go true h = omega arith
    go false h = omega arith

pub written-length : (a : List Answer) (output : List Float) → length (written a output) ≡ length output
unfolding written
written-length [] output = refl
written-length (x ∷ a) [] = refl
written-length (x ∷ a) (y ∷ output) = ap suc (written-length a output)

written-append : (a b : List Answer) (output : List Float) → length a ≤ length output
    → written (a ++ b) output ≡ written a (take (length a) output) ++ written b (drop (length a) output)
unfolding written
written-append [] b output h = refl
written-append (x ∷ a) b [] h = absurd (omega arith)
written-append (x ∷ a) b (y ∷ output) h = ap (λ (l : List Float). placed x y ∷ l) (written-append a b output (omega arith))

module _ (F : Filter) (keeps : (s : F.State) (x : Float) → F.check s ≡ true → F.check (F.next s x) ≡ true) (s : F.State) (input output₀ : List Float)
    (k : ℕ)
    (good : F.check s ≡ true) (within : k ≤ length input) (room : length input ≤ length output₀) where
  -- what a block of the first k samples returns
  pub front-is : block F s (take k input) output₀
      ≡ record {
        refusal = 0;
        clouded = clouded_in (answers F s (take k input));
        state = after F s (take k input);
        output = written (answers F s (take k input)) output₀;
      }
  front-is = block-is F s (take k input) output₀ good (rw (length-take) (omega arith))

  -- and the rest behind it
  pub block-parts : {s₁ s₂ : F.State} {output₁ output₂ : List Float} {c₁ c₂ : ℕ} → record { refusal = 0; clouded = c₁; state = s₁; output = output₁ }
      ≡ block F s (take k input) output₀
      → c₂ ≡ clouded_in (answers F s₁ (drop k input)) → s₂ ≡ after F s₁ (drop k input) → output₂
      ≡ take k output₁ ++ written (answers F s₁ (drop k input)) (drop k output₁)
      → ◌≡◌ {A = Block F.State} (record { refusal = 0; clouded = c₁ + c₂; state = s₂; output = output₂ }) (block F s input output₀)
  unfolding block written
  block-parts {s₁} {s₂} {output₁} {output₂} {c₁} {c₂} e ec es eo =
      let q = e ∙ front-is in
      let xs = take k input in
      let ys = drop k input in
      let a = answers F s xs in
      let la : length a ≡ k = answers-length F keeps s xs ∙ rw (length-take) (omega arith) in
      let c : c₁ ≡ clouded_in a = ap (λ (b : Block F.State). b.clouded) q in
      let t : s₁ ≡ after F s xs = ap (λ (b : Block F.State). b.state) q in
      let o : output₁ ≡ written a output₀ = ap (λ (b : Block F.State). b.output) q in
      let whole : answers F s input ≡ a ++ answers F s₁ ys = ap (answers F s) (sym (take-append-drop k input)) ∙ answers-append F keeps s xs ys
      ∙ ap (λ (r : F.State). a ++ answers F r ys) (sym t) in
      let last : after F s input ≡ s₂ = ap (after F s) (sym (take-append-drop k input)) ∙ after-append F keeps s xs ys
      ∙ ap (λ (r : F.State). after F r ys) (sym t) ∙ sym es in
      let count : clouded_in (answers F s input) ≡ c₁ + c₂ = ap clouded_in whole ∙ clouded-append a (answers F s₁ ys) ∙ ap₂ ◌+◌ (sym c) (sym ec) in
      let front = written a (take k output₀) in
      let back = drop k output₀ in
      let lf = written-length a (take k output₀) ∙ length-take-le k output₀ (omega arith) in
      let more : (b : List Answer) → written (a ++ b) output₀ ≡ front ++ written b back = λ b. rw la at (written-append a b output₀ (omega (arith, la))) in
      let own : output₁ ≡ front ++ back = o ∙ ap (λ (l : List Answer). written l output₀) (sym (append-nil a)) ∙ more [] in
      let places : written (answers F s input) output₀ ≡ output₂ = ap (λ (l : List Answer). written l output₀) whole ∙ more (answers F s₁ ys)
      ∙ rw (eo, own, take_at front back k lf, drop_at front back k lf) in
      rw (good, le-ltb (length output₀) (length input) room, count, last, places)

-- ---- a block whose samples are taken some at a time

module _ (F : Filter) (keeps : (s : F.State) (x : Float) → F.check s ≡ true → F.check (F.next s x) ≡ true) (s₀ : F.State) (input output₀ : List Float)
  where
    -- n samples from sample i on, as a block of their own over their places, which hold ys after it
    pub run-part : {s s' : F.State} {output ys : List Float} {refusal clouded c i : ℕ} (n : ℕ) → i + n ≤ length input
        → record { refusal = refusal; clouded = c; state = s'; output = ys } ≡ block F s (take n (drop i input)) (take n (drop i output))
        → Running F s₀ input output₀ s output clouded i → Running F s₀ input output₀ s' (take i output ++ ys ++ drop (i + n) output) (clouded + c) (i + n)
    run-part {s} {s'} {output} {ys} {refusal} {clouded} {c} {i} n h e p =
        let xs = take n (drop i input) in
        let os = take n (drop i output) in
        let lx = part_length input i n h in
        let lo = part_length output i n (omega (arith, p.room)) in
        let q = e ∙ block-is F s xs os p.good (omega (arith, lx, lo)) in
        let a = answers F s xs in
        let la : length a ≡ n = answers-length F keeps s xs ∙ lx in
        let ec : c ≡ clouded_in a = ap (λ (b : Block F.State). b.clouded) q in
        let es : s' ≡ after F s xs = ap (λ (b : Block F.State). b.state) q in
        let ey : ys ≡ written a os = ap (λ (b : Block F.State). b.output) q in
        let ly : length ys ≡ n = ap length ey ∙ written-length a os ∙ lo in
        let rest = drop (i + n) input in
        let behind = drop (i + n) output in
        let b = answers F s' rest in
        let split : (l : List Float) → drop i l ≡ take n (drop i l) ++ drop (i + n) l = λ l. sym (take-append-drop n (drop i l))
        ∙ ap (λ (t : List Float). take n (drop i l) ++ t) (drop-drop n i l) in
        let all : answers F s (drop i input) ≡ a ++ b = ap (answers F s) (split input) ∙ answers-append F keeps s xs rest
        ∙ ap (λ (t : F.State). a ++ answers F t rest) (sym es) in
        let first = take i output ++ ys in
        let lf : length first ≡ i + n = rw (length-append, length-take) (omega (arith, ly, p.room)) in
        let same_length : length (take i output ++ ys ++ behind) ≡ length output = rw (length-append, lf, length-drop) (omega (arith, p.room)) in
        record {
          within = h;
          room = rw same_length p.room;
          few = omega (arith, p.few, ec, few-clouded a, la);
          good = rw es (check-after F keeps s xs p.good);
          state = ap (λ (t : F.State). after F t rest) es ∙ sym (after-append F keeps s xs rest) ∙ ap (after F s) (sym (split input)) ∙ p.state;
          count =
              let sum : clouded_in (answers F s (drop i input))
              ≡ c + clouded_in b = ap clouded_in all ∙ clouded-append a b ∙ ap (λ (z : ℕ). z + clouded_in b) (sym ec) in
              omega (arith, sum, p.count);
          places =
              rw (take_at first behind (i + n) lf, drop_at first behind (i + n) lf, append_assoc)
              (ap (λ (t : List Float). take i output ++ t) (ap₂ (λ (t u : List Float). t ++ written b u) ey (sym (drop-drop n i output))
              ∙ sym (rw la at (written-append a b (drop i output) (omega (arith, la, p.room, length-drop i output))))
              ∙ sym (ap (λ (t : List Answer). written t (drop i output)) all)) ∙ p.places);
          same = same_length ∙ p.same;
        }
