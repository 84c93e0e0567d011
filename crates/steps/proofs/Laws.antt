-- Single steps over an input: what a function shows where it returns.
use mathlib.Core.Path.{◌≡◌}
use mathlib.Core.List.{List}
use Prim.Native.Nat.{ℕ, ◌<◌, ◌≤◌}
use lib.ListN.{length}
use lib.Ieee.{Float}
use native.Mathlib.Omega.{arith}
use Rattle.std.specs.Prelude.{Result, Ok, Err}
use borrow.Author.Tests.{eq-eqb, ne_eqb, lt-ltb, le-ltb}
use Rattle.runs.specs.Refusals.{no_refusal, short_output}
use Rattle.runs.specs.Runs.{Filter, answers, written}
use Rattle.runs.specs.View.{number, refusal_in}
use Rattle.runs.specs.declared.refusal.Refusal.{Refusal}
use Rattle.runs.proofs.Default.{number_above_zero}
use Rattle.steps.specs.Steps.{steps_of, steps_made}

module _ (F : Filter) (n : ℕ) (s : F.State) (input output : List Float) where
  pub steps-refused : (n ≡ 0 → ⊥) → record { refusal = n; output = output } ≡ steps_of F n s input output
  unfolding steps_of
  steps-refused h = rw (ne_eqb n 0 h)

  pub steps-short : n ≡ 0 → length output < length input → record { refusal = short_output; output = output } ≡ steps_of F n s input output
  unfolding steps_of
  steps-short h k = rw (eq-eqb n 0 h, lt-ltb (length output) (length input) k)

  pub steps-ran : {o : List Float} → n ≡ 0 → length input ≤ length output → o ≡ written (answers F s input) output → record { refusal = no_refusal; output = o }
      ≡ steps_of F n s input output
  unfolding steps_of
  steps-ran h k e = rw (eq-eqb n 0 h, le-ltb (length output) (length input) k, e)

-- a record that was made or refused, beside what its design or its taps return
module _ (F : Filter) {R D : Type 0} (read : R → F.State) (view : Result R Refusal → D) (refusal : D → ℕ) (state : D → F.State)
    (told : (r : Result R Refusal) → refusal (view r) ≡ refusal_in r) (kept : (r : R) → state (view (Ok r)) ≡ read r) where
  pub steps_viewed : (r : Result R Refusal) (input output : List Float) → steps_made F read r input output
      ≡ steps_of F (refusal (view r)) (state (view r)) input output
  steps_viewed (Ok r) input output = rw (told (Ok r), kept r)
  steps_viewed (Err n) input output =
      rw (told (Err n)) (steps-refused F (number n) (state (view (Err n))) input output (λ e. omega (arith, number_above_zero n, e)))
