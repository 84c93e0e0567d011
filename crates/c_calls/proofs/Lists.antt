-- A list of calls of the C functions shows what `run` says, for any kind of record that is read back from the slices as it was written into them.
use mathlib.Core.Path.{◌≡◌, refl, sym, ap, ap₂, ◌∙◌}
use mathlib.Core.Bool.{Bool, true, false, ◌&&◌, false≢true}
use mathlib.Core.List.{List, [], ◌∷◌}
use mathlib.Core.Logic.{◌⊎◌, inl, inr}
use Prim.Native.Nat.{ℕ}
use native.Mathlib.Omega.{arith}
use lib.Dec.{eqb}
use lib.ListN.{length}
use lib.Ieee.{Float}
use borrow.Author.Tests.{ne_eqb, eqb-true, eqb-false, ltb-true, ltb-false}
use Rattle.runs.specs.Refusals.{no_refusal, short_output, bad_call}
use Rattle.runs.specs.Runs as Runs
use Rattle.runs.specs.Runs.{marked, refused, number_of, is_clouded, Filter, refused_block, clouded_in, written, answer, answers, after}
use Rattle.runs.specs.Forgetting.{Call, step, block, reset, Outcome, stepped, blocked, was_reset, outcome, left, run}
use Rattle.runs.specs.Forgetting.{is_short}
use Rattle.runs.proofs.Laws.{marked-accepted, step-refused, step-answered, step_is, reset-refused, reset-done, block-is, block_refused, block-short}
use Rattle.runs.proofs.Forgetting.{step-outcome, step_left, block-outcome, block-left, reset-outcome, reset-left, outcome-refused, left-refused}
use Rattle.c_layout.specs.Layout.{flag}
use Rattle.c_calls.specs.Kinds.{Kind}
use Rattle.c_calls.specs.Calls as Calls
use Rattle.c_calls.specs.Calls.{step_call, block_call, block_in_place_call, reset_call, unchanged, not_stored}
use Rattle.c_calls.proofs.Laws as Laws
use Rattle.c_calls.proofs.Laws.{step-not-single, step-unfit, lend-step, block-not-single, block-unfit, lend-block, block-accepted, reset-unfit}
use Rattle.c_calls.proofs.Laws.{lend-reset, reset-accepted}
use Rattle.c_calls.specs.Lists.{answer_shown, count_shown, CCall, step_called, block_called, block_in_place_called, reset_called, CCalls, ended, called}
use Rattle.c_calls.specs.Lists.{badly_called}

-- What has to be shown of a kind: the records that are read from slices that fit, and all that calls make of them, are read back as they were written.
pub record ReadBack (K : Kind) : Type 1 where
  pub Good : K.filter.State → Type 0
  pub good-read : (numbers : List Float) (counts : List ℕ) → K.fit numbers counts ≡ true → Good (K.read numbers counts)
  pub good-next : (s : K.filter.State) (x : Float) → K.filter.check s ≡ true → Good s → Good (K.filter.next s x)
  pub good-cleared : (s : K.filter.State) → Good s → Good (K.filter.cleared s)
  pub keeps : (s : K.filter.State) (x : Float) → K.filter.check s ≡ true → K.filter.check (K.filter.next s x) ≡ true
  pub back : (s : K.filter.State) → Good s → K.read (K.numbers s) (K.counts s) ≡ s
  pub fit-back : (s : K.filter.State) → Good s → K.fit (K.numbers s) (K.counts s) ≡ true
  pub numbered : (K.filter.refusal ≡ no_refusal → ⊥) × (K.filter.refusal ≡ bad_call → ⊥)

-- a call of the filter: it found slices that fit, left slices that fit, and showed and left what the definitions say
record Shown (K : Kind) (numbers : List Float) (counts : List ℕ) (numbers' : List Float) (counts' : List ℕ) (c : Call) (o : Outcome) : Type 0 where
  fit : K.fit numbers counts ≡ true
  fit' : K.fit numbers' counts' ≡ true
  shows : o ≡ outcome K.filter (K.read numbers counts) c
  leaves : K.read numbers' counts' ≡ left K.filter (K.read numbers counts) c

-- a call refused by 13: it left the slices
record Left (numbers : List Float) (counts : List ℕ) (numbers' : List Float) (counts' : List ℕ) : Type 0 where
  same : numbers' ≡ numbers
  same-counts : counts' ≡ counts

shown-marked : (m : Bool) (y : Float) → marked (eqb (flag (is_clouded (marked m y))) 1) (number_of (marked m y)) ≡ marked m y
shown-marked true y = refl
shown-marked false y = refl

-- the slices after a call that changed none of them
left_by : (K : Kind) {numbers numbers' answers answers' : List Float} {counts counts' clouded clouded' : List ℕ} {r n : ℕ}
    → ◌≡◌ {A = Calls.CallRecord} (record { refusal = r; numbers = numbers'; counts = counts'; answers = answers'; clouded = clouded' })
    (unchanged K numbers counts answers clouded n) → Left numbers counts numbers' counts'
left_by K e = record { same = ap (λ (z : Calls.CallRecord). z.numbers) e; same-counts = ap (λ (z : Calls.CallRecord). z.counts) e }

module _ (K : Kind) (B : ReadBack K) where
  abbrev F : Filter
  F = K.filter

  -- a call is refused by 13 and leaves the slices, or is a call of the filter
  abbrev Verdict : ℕ → List Float → List ℕ → List Float → List ℕ → Call → Outcome → Type 0
  Verdict r numbers counts numbers' counts' c o = ((r ≡ bad_call) × Left numbers counts numbers' counts') ⊎
      ((r ≡ bad_call → ⊥) × Shown K numbers counts numbers' counts' c o)

  pub good-after : (s : F.State) (xs : List Float) → F.check s ≡ true → B.Good s → B.Good (after F s xs)
  unfolding after
  good-after s [] h g = g
  good-after s (x ∷ xs) h g = rw (step_is F s x h) (good-after (F.next s x) xs (B.keeps s x h) (B.good-next s x h g))

  module _ (numbers numbers' : List Float) (counts counts' : List ℕ) where
    abbrev s₀ : F.State
    s₀ = K.read numbers counts

    -- a refused call of the filter
    refused-shown : {r : ℕ} {c : Call} {o : Outcome} → K.fit numbers counts ≡ true → Left numbers counts numbers' counts' → (r ≡ bad_call → ⊥)
        → o ≡ outcome F s₀ c → s₀ ≡ left F s₀ c → Verdict r numbers counts numbers' counts' c o
    refused-shown fit l bad shows leaves = inr (
      bad,
      record {
        fit = fit;
        fit' = rw (l.same, l.same-counts) fit;
        shows = shows;
        leaves = ap₂ K.read l.same l.same-counts ∙ leaves;
      },
    )

    -- an accepted one, which wrote the record s
    accepted-shown : {r : ℕ} {c : Call} {o : Outcome} {s : F.State} → K.fit numbers counts ≡ true → B.Good s → numbers' ≡ K.numbers s → counts'
        ≡ K.counts s → (r ≡ bad_call → ⊥)
        → o ≡ outcome F s₀ c → s ≡ left F s₀ c → Verdict r numbers counts numbers' counts' c o
    accepted-shown {s = s} fit g en ec bad shows leaves = inr (
      bad,
      record {
        fit = fit;
        fit' = rw (en, ec) (B.fit-back s g);
        shows = shows;
        leaves = ap₂ K.read en ec ∙ B.back s g ∙ leaves;
      },
    )

    not-bad : {r n : ℕ} → (n ≡ bad_call → ⊥) → r ≡ n → r ≡ bad_call → ⊥
    not-bad h e z = h (sym e ∙ z)

    -- ---- a step
    step-verdict : (r : ℕ) (x : Float) (answer answer' : List Float) (clouded clouded' : List ℕ)
        → record { refusal = r; numbers = numbers'; counts = counts'; answers = answer'; clouded = clouded' } ≡ step_call K numbers counts x answer clouded
        → Verdict r numbers counts numbers' counts' (step x) (stepped (answer_shown r answer' clouded'))
    step-verdict r x answer answer' clouded clouded' e = go (eqb (length answer) 1 && eqb (length clouded) 1) (K.fit numbers counts) (F.check s₀) refl refl
        refl
      where
        go : (a b c : Bool) → (eqb (length answer) 1 && eqb (length clouded) 1) ≡ a → K.fit numbers counts ≡ b → F.check s₀ ≡ c
            → Verdict r numbers counts numbers' counts' (step x) (stepped (answer_shown r answer' clouded'))
        go false b c p q t = let z = e ∙ sym (step-not-single K numbers counts x answer clouded p) in
            inl (ap (λ (k : Calls.CallRecord). k.refusal) z, left_by K z)
        go true false c p q t = let z = e ∙ sym (step-unfit K numbers counts x answer clouded p q) in
            inl (ap (λ (k : Calls.CallRecord). k.refusal) z, left_by K z)
        go true true false p q t =
            let lent = lend-step K numbers counts q refl x (step-refused F s₀ x t) in
            let z = e ∙ sym (Laws.step-refused K numbers counts x answer clouded p lent refl B.numbered.0) in
            let er : r ≡ F.refusal = ap (λ (k : Calls.CallRecord). k.refusal) z in
            let shown : answer_shown r answer' clouded' ≡ refused F.refusal = rw (er, ne_eqb F.refusal 0 B.numbered.0) in
            refused-shown q (left_by K z) (not-bad B.numbered.1 er) (ap stepped shown ∙ sym (outcome-refused F s₀ t (step x)))
            (sym (left-refused F s₀ t (step x)))
        go true true true p q t =
            let m = F.mark s₀ x in
            let y = F.value s₀ x in
            let lent = lend-step K numbers counts q refl x (step-answered F s₀ x t refl refl) in
            let z = e ∙ sym (Laws.step-accepted K numbers counts x answer clouded p lent (sym (marked-accepted m y)) refl refl refl refl refl) in
            let er : r ≡ 0 = ap (λ (k : Calls.CallRecord). k.refusal) z in
            let ey : answer' ≡ number_of (marked m y) ∷ [] = ap (λ (k : Calls.CallRecord). k.answers) z in
            let et : clouded' ≡ flag (is_clouded (marked m y)) ∷ [] = ap (λ (k : Calls.CallRecord). k.clouded) z in
            let shown : answer_shown r answer' clouded' ≡ marked m y = rw (er, ey, et) (shown-marked m y) in
            accepted-shown q (B.good-next s₀ x t (B.good-read numbers counts q)) (ap (λ (k : Calls.CallRecord). k.numbers) z)
            (ap (λ (k : Calls.CallRecord). k.counts) z) (not-bad (λ h. omega (arith, h)) er)
            (ap stepped shown ∙ sym (step-outcome F s₀ t x)) (sym (step_left F s₀ t x))

    -- ---- a block
    block-verdict : (r : ℕ) (input output output' : List Float) (clouded clouded' : List ℕ)
        → record { refusal = r; numbers = numbers'; counts = counts'; answers = output'; clouded = clouded' } ≡ block_call K numbers counts input output clouded
        → Verdict r numbers counts numbers' counts' (block input output) (blocked r (count_shown r clouded') output')
    block-verdict r input output output' clouded clouded' e = go (eqb (length clouded) 1) (K.fit numbers counts) (F.check s₀) (is_short input output) refl refl
        refl refl
      where
        -- a refusal by n that is not 13
        kept : (n : ℕ) → (n ≡ 0 → ⊥) → (n ≡ bad_call → ⊥) → length clouded ≡ 1 → K.fit numbers counts ≡ true → refused_block n s₀ output
            ≡ Runs.block F s₀ input output
            → blocked n 0 output ≡ outcome F s₀ (block input output) → s₀ ≡ left F s₀ (block input output)
            → Verdict r numbers counts numbers' counts' (block input output) (blocked r (count_shown r clouded') output')
        kept n h k p q b shows leaves =
            let z = e ∙ sym (Laws.block_refused K numbers counts input output clouded p (lend-block K numbers counts q refl input output b) h) in
            let er : r ≡ n = ap (λ (c : Calls.CallRecord). c.refusal) z in
            let eo : output' ≡ output = ap (λ (c : Calls.CallRecord). c.answers) z in
            let shown : blocked r (count_shown r clouded') output' ≡ blocked n 0 output = rw (er, eo, ne_eqb n 0 h) in
            refused-shown q (left_by K z) (not-bad k er) (shown ∙ shows) leaves

        go : (a b c d : Bool) → eqb (length clouded) 1 ≡ a → K.fit numbers counts ≡ b → F.check s₀ ≡ c → is_short input output ≡ d
            → Verdict r numbers counts numbers' counts' (block input output) (blocked r (count_shown r clouded') output')
        go false b c d p q t i = let z = e ∙ sym (block-not-single K numbers counts input output clouded (eqb-false (length clouded) 1 p)) in
            inl (ap (λ (k : Calls.CallRecord). k.refusal) z, left_by K z)
        go true false c d p q t i = let z = e ∙ sym (block-unfit K numbers counts input output clouded (eqb-true (length clouded) 1 p) q) in
            inl (ap (λ (k : Calls.CallRecord). k.refusal) z, left_by K z)
        go true true false d p q t i =
            kept F.refusal B.numbered.0 B.numbered.1 (eqb-true (length clouded) 1 p) q (block_refused F s₀ input output t)
            (sym (outcome-refused F s₀ t (block input output)))
            (sym (left-refused F s₀ t (block input output)))
        go true true true true p q t i =
            kept short_output (λ h. omega (arith, h)) (λ h. omega (arith, h)) (eqb-true (length clouded) 1 p) q
            (block-short F s₀ input output t (ltb-true (length output) (length input) i))
            (sym (block-outcome F s₀ t input output ∙ rw i)) (sym (block-left F s₀ t input output ∙ rw i))
        go true true true false p q t i =
            let ys = answers F s₀ input in
            let lent = lend-block K numbers counts q refl input output (sym (block-is F s₀ input output t (ltb-false (length output) (length input) i))) in
            let z = e ∙ sym (block-accepted K numbers counts input output clouded (eqb-true (length clouded) 1 p) lent refl refl refl refl) in
            let er : r ≡ 0 = ap (λ (c : Calls.CallRecord). c.refusal) z in
            let eo : output' ≡ written ys output = ap (λ (c : Calls.CallRecord). c.answers) z in
            let et : clouded' ≡ clouded_in ys ∷ [] = ap (λ (c : Calls.CallRecord). c.clouded) z in
            let shown : blocked r (count_shown r clouded') output' ≡ blocked 0 (clouded_in ys) (written ys output) = rw (er, eo, et) in
            accepted-shown q (good-after s₀ input t (B.good-read numbers counts q)) (ap (λ (c : Calls.CallRecord). c.numbers) z)
            (ap (λ (c : Calls.CallRecord). c.counts) z) (not-bad (λ h. omega (arith, h)) er)
            (shown ∙ sym (block-outcome F s₀ t input output ∙ rw i)) (sym (block-left F s₀ t input output ∙ rw i))

    -- ---- a reset
    reset-verdict : (r : ℕ) → record { refusal = r; numbers = numbers'; counts = counts' } ≡ reset_call K numbers counts
        → Verdict r numbers counts numbers' counts' reset (was_reset r)
    reset-verdict r e = go (K.fit numbers counts) (F.check s₀) refl refl
      where
        stored : {n : ℕ} → ◌≡◌ {A = Calls.StoredRecord} (record { refusal = r; numbers = numbers'; counts = counts' }) (not_stored numbers counts n)
            → Left numbers counts numbers' counts'
        stored z = record { same = ap (λ (k : Calls.StoredRecord). k.numbers) z; same-counts = ap (λ (k : Calls.StoredRecord). k.counts) z }

        go : (b c : Bool) → K.fit numbers counts ≡ b → F.check s₀ ≡ c → Verdict r numbers counts numbers' counts' reset (was_reset r)
        go false c q t = let z = e ∙ sym (reset-unfit K numbers counts q) in inl (ap (λ (k : Calls.StoredRecord). k.refusal) z, stored z)
        go true false q t =
            let z = e ∙ sym (Laws.reset-refused K numbers counts (lend-reset K numbers counts q refl (reset-refused F s₀ t)) B.numbered.0) in
            let er : r ≡ F.refusal = ap (λ (k : Calls.StoredRecord). k.refusal) z in
            refused-shown q (stored z) (not-bad B.numbered.1 er) (ap was_reset er ∙ sym (outcome-refused F s₀ t reset)) (sym (left-refused F s₀ t reset))
        go true true q t =
            let z = e ∙ sym (reset-accepted K numbers counts (lend-reset K numbers counts q refl (reset-done F s₀ t refl)) refl refl refl) in
            let er : r ≡ 0 = ap (λ (k : Calls.StoredRecord). k.refusal) z in
            accepted-shown q (B.good-cleared s₀ (B.good-read numbers counts q)) (ap (λ (k : Calls.StoredRecord). k.numbers) z)
            (ap (λ (k : Calls.StoredRecord). k.counts) z) (not-bad (λ h. omega (arith, h)) er)
            (ap was_reset er ∙ sym (reset-outcome F s₀ t)) (sym (reset-left F s₀ t))

  -- ---- one call, and a list of them
  verdict : {r : ℕ} {numbers numbers' : List Float} {counts counts' : List ℕ} {c : Call} {o : Outcome} → CCall K r numbers counts numbers' counts' c o
      → Verdict r numbers counts numbers' counts' c o
  unfolding block_in_place_call
  verdict (step_called r numbers numbers' counts counts' x answer answer' clouded clouded' e) = step-verdict numbers numbers' counts counts' r x answer answer'
      clouded clouded' e
  verdict (block_called r numbers numbers' counts counts' input output output' clouded clouded' e) =
      block-verdict numbers numbers' counts counts' r input output
      output' clouded clouded' e
  verdict (block_in_place_called r numbers numbers' counts counts' samples samples' clouded clouded' e) =
      block-verdict numbers numbers' counts counts' r samples
      samples samples' clouded clouded' e
  verdict (reset_called r numbers numbers' counts counts' e) = reset-verdict numbers numbers' counts counts' r e

  pub c-calls-run : {numbers : List Float} {counts : List ℕ} {calls : List Call} {outcomes : List Outcome} → CCalls K numbers counts calls outcomes
      → outcomes ≡ run F (K.read numbers counts) calls
  unfolding run
  c-calls-run (ended numbers counts) = refl
  c-calls-run (called r numbers numbers' counts counts' c o calls outcomes one good rest) = go (verdict one) (c-calls-run rest)
    where
      go : Verdict r numbers counts numbers' counts' c o → outcomes ≡ run F (K.read numbers' counts') calls
          → o ∷ outcomes ≡ outcome F (K.read numbers counts) c ∷ run F (left F (K.read numbers counts) c) calls
      go (inl v) e = absurd (good v.0)
      go (inr v) e = ap₂ ◌∷◌ v.1.shows (e ∙ ap (λ (s : F.State). run F s calls) v.1.leaves)
  c-calls-run (badly_called numbers numbers' counts counts' c o calls outcomes one rest) = go (verdict one) (c-calls-run rest)
    where
      go : Verdict bad_call numbers counts numbers' counts' c o → outcomes ≡ run F (K.read numbers' counts') calls → outcomes
          ≡ run F (K.read numbers counts) calls
      go (inl v) e = e ∙ ap (λ (s : F.State). run F s calls) (ap₂ K.read v.1.same v.1.same-counts)
      go (inr v) e = absurd (v.0 refl)

  -- slices that do not fit are called by no call of the filter
  pub c-calls-none : {numbers : List Float} {counts : List ℕ} {calls : List Call} {outcomes : List Outcome} → K.fit numbers counts ≡ false
      → CCalls K numbers counts calls outcomes
      → (calls ≡ []) × (outcomes ≡ [])
  c-calls-none h (ended numbers counts) = (refl, refl)
  c-calls-none h (called r numbers numbers' counts counts' c o calls outcomes one good rest) = absurd (go (verdict one))
    where
      go : Verdict r numbers counts numbers' counts' c o → ⊥
      go (inl v) = good v.0
      go (inr v) = false≢true (sym h ∙ v.1.fit)
  c-calls-none h (badly_called numbers numbers' counts counts' c o calls outcomes one rest) = go (verdict one) (λ k. c-calls-none k rest)
    where
      go : Verdict bad_call numbers counts numbers' counts' c o → (K.fit numbers' counts' ≡ false → (calls ≡ []) × (outcomes ≡ [])) → (calls ≡ [])
          × (outcomes ≡ [])
      go (inl v) none = none (ap₂ K.fit v.1.same v.1.same-counts ∙ h)
      go (inr v) none = absurd (v.0 refl)
