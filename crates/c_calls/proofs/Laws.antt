-- What a call shows where it returns, for either kind of record.
use mathlib.Core.Path.{◌≡◌, sym, ap, ◌∙◌}
use mathlib.Core.Bool.{true, false, ◌&&◌}
use mathlib.Core.List.{List, [], ◌∷◌}
use Prim.Native.Nat.{ℕ}
use native.Mathlib.Omega.{arith}
use lib.Dec.{eqb}
use lib.ListN.{length}
use lib.Ieee.{Float}
use borrow.Author.Tests.{eq-eqb, ne_eqb}
use Rattle.runs.specs.Refusals.{no_refusal, bad_call}
use Rattle.runs.specs.Runs.{Answer, Step, Reset, Block, number_of, is_clouded, refusal_of, step, reset, block}
use Rattle.runs.specs.Lent.{lent_step, lent_reset, lent_block}
use Rattle.runs.proofs.Lent.{lent-step, lent-reset, lent-block, unfit-step, unfit-reset, unfit-block, block-keeps}
use Rattle.runs.specs.View.{number}
use Rattle.runs.specs.declared.refusal.Refusal.{Refusal}
use Rattle.runs.proofs.Default.{number_above_zero}
use Rattle.c_layout.specs.Layout.{flag}
use Rattle.c_calls.specs.Kinds.{Kind}
use Rattle.c_calls.specs.Calls.{CallRecord, StoredRecord, record_of, fitting, unchanged, step_call, block_call, reset_call, not_stored}

-- the number of a refusal is not 0
pub numbered : (r : Refusal) → number r ≡ 0 → ⊥
numbered r z = omega (arith, z, number_above_zero r)

module _ (K : Kind) (ns : List Float) (cs : List ℕ) where
  -- ---- slices that fit
  module _ {s : K.filter.State} (fit : K.fit ns cs ≡ true) (e : s ≡ record_of K ns cs) where
    pub lend-step : (x : Float) {r : Step K.filter.State} → r ≡ step K.filter s x → r ≡ lent_step K.filter (fitting K ns cs) (record_of K ns cs) x
    lend-step x p = p ∙ ap (λ (z : K.filter.State). step K.filter z x) e ∙ sym (lent-step K.filter (fitting K ns cs) (record_of K ns cs) x fit)

    pub lend-reset : {r : Reset K.filter.State} → r ≡ reset K.filter s → r ≡ lent_reset K.filter (fitting K ns cs) (record_of K ns cs)
    lend-reset p = p ∙ ap (reset K.filter) e ∙ sym (lent-reset K.filter (fitting K ns cs) (record_of K ns cs) fit)

    pub lend-block : (input output : List Float) {r : Block K.filter.State} → r ≡ block K.filter s input output
        → r ≡ lent_block K.filter (fitting K ns cs) (record_of K ns cs) input output
    lend-block input output p = p ∙ ap (λ (z : K.filter.State). block K.filter z input output) e
        ∙ sym (lent-block K.filter (fitting K ns cs) (record_of K ns cs) input output fit)

  -- ---- a step
  module _ (x : Float) (answer : List Float) (tally : List ℕ) where
    pub step-not-single : (eqb (length answer) 1 && eqb (length tally) 1) ≡ false → unchanged K ns cs answer tally bad_call ≡ step_call K ns cs x answer tally
    unfolding step_call
    step-not-single h = rw h

    pub step-unfit : (eqb (length answer) 1 && eqb (length tally) 1) ≡ true → K.fit ns cs ≡ false → unchanged K ns cs answer tally bad_call
        ≡ step_call K ns cs x answer tally
    unfolding step_call
    step-unfit h k = rw (h, unfit-step K.filter (fitting K ns cs) (record_of K ns cs) x k)

    pub step-refused : {a : Answer} {s : K.filter.State} {n : ℕ} → (eqb (length answer) 1 && eqb (length tally) 1) ≡ true
        → ◌≡◌ {A = Step K.filter.State} (record { answer = a; state = s }) (lent_step K.filter (fitting K ns cs) (record_of K ns cs) x) → n ≡ refusal_of a
        → (n ≡ 0 → ⊥)
        → unchanged K ns cs answer tally n ≡ step_call K ns cs x answer tally
    unfolding step_call
    step-refused {a} {s} {n} h e g k = rw (h, ← e, ← g, ne_eqb n 0 k)

    pub step-accepted : {a : Answer} {s : K.filter.State} {n : ℕ} {ns' ys : List Float} {cs' tally' : List ℕ}
        → (eqb (length answer) 1 && eqb (length tally) 1) ≡ true
        → ◌≡◌ {A = Step K.filter.State} (record { answer = a; state = s }) (lent_step K.filter (fitting K ns cs) (record_of K ns cs) x) → n ≡ refusal_of a
        → n ≡ 0
        → ns' ≡ K.numbers s → cs' ≡ K.counts s → ys ≡ number_of a ∷ [] → tally' ≡ flag (is_clouded a) ∷ []
        → ◌≡◌ {A = CallRecord} (record { refusal = no_refusal; numbers = ns'; counts = cs'; answers = ys; clouded = tally' }) (step_call K ns cs x answer tally)
    unfolding step_call
    step-accepted {a} {s} {n} h e g k en ec ey et = rw (h, ← e, eq-eqb (refusal_of a) 0 (sym g ∙ k), en, ec, ey, et)

  -- ---- a block
  module _ (input output : List Float) (tally : List ℕ) where
    pub block-not-single : (length tally ≡ 1 → ⊥) → unchanged K ns cs output tally bad_call ≡ block_call K ns cs input output tally
    unfolding block_call
    block-not-single h = rw (ne_eqb (length tally) 1 h)

    pub block-unfit : length tally ≡ 1 → K.fit ns cs ≡ false → unchanged K ns cs output tally bad_call ≡ block_call K ns cs input output tally
    unfolding block_call
    block-unfit h k = rw (eq-eqb (length tally) 1 h, unfit-block K.filter (fitting K ns cs) (record_of K ns cs) input output k)

    pub block_refused : {n c : ℕ} {s : K.filter.State} {o : List Float} → length tally ≡ 1
        → ◌≡◌ {A = Block K.filter.State} (record { refusal = n; clouded = c; state = s; output = o })
        (lent_block K.filter (fitting K ns cs) (record_of K ns cs) input output) → (n ≡ 0 → ⊥)
        → unchanged K ns cs o tally n ≡ block_call K ns cs input output tally
    unfolding block_call
    block_refused {n} h e k = rw (
      eq-eqb (length tally) 1 h,
      ← e,
      ne_eqb n 0 k,
      (block-keeps K.filter (fitting K ns cs) (record_of K ns cs) input output e k).1,
    )

    pub block-accepted : {n c : ℕ} {s : K.filter.State} {o ns' : List Float} {cs' tally' : List ℕ} → length tally ≡ 1
        → ◌≡◌ {A = Block K.filter.State} (record { refusal = n; clouded = c; state = s; output = o })
        (lent_block K.filter (fitting K ns cs) (record_of K ns cs) input output) → n ≡ 0
        → ns' ≡ K.numbers s → cs' ≡ K.counts s → tally' ≡ c ∷ []
        → ◌≡◌ {A = CallRecord} (record { refusal = no_refusal; numbers = ns'; counts = cs'; answers = o; clouded = tally' })
        (block_call K ns cs input output tally)
    unfolding block_call
    block-accepted {n} h e k en ec et = rw (eq-eqb (length tally) 1 h, ← e, eq-eqb n 0 k, en, ec, et)

  -- ---- a reset
  pub reset-unfit : K.fit ns cs ≡ false → not_stored ns cs bad_call ≡ reset_call K ns cs
  unfolding reset_call
  reset-unfit k = rw (unfit-reset K.filter (fitting K ns cs) (record_of K ns cs) k)

  pub reset-refused : {n : ℕ} {s : K.filter.State} → ◌≡◌ {A = Reset K.filter.State} (record { refusal = n; state = s }) (lent_reset K.filter
      (fitting K ns cs) (record_of K ns cs)) → (n ≡ 0 → ⊥)
      → not_stored ns cs n ≡ reset_call K ns cs
  unfolding reset_call
  reset-refused {n} e k = rw (← e, ne_eqb n 0 k)

  pub reset-accepted : {n : ℕ} {s : K.filter.State} {ns' : List Float} {cs' : List ℕ}
      → ◌≡◌ {A = Reset K.filter.State} (record { refusal = n; state = s }) (lent_reset K.filter (fitting K ns cs) (record_of K ns cs)) → n ≡ 0 → ns'
      ≡ K.numbers s → cs' ≡ K.counts s
      → ◌≡◌ {A = StoredRecord} (record { refusal = no_refusal; numbers = ns'; counts = cs' }) (reset_call K ns cs)
  unfolding reset_call
  reset-accepted {n} e k en ec = rw (← e, eq-eqb n 0 k, en, ec)
