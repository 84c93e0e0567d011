-- Single steps, one for each sample of an input, from a new record: the number that refuses, and the output.
use Rattle.std.specs.Prelude.{ℕ, cond, Result, Ok, Err, List, eqb, ltb, length, Float}
use Rattle.std.specs.Float.{binary64}
use Rattle.runs.specs.Refusals.{no_refusal, short_output}
use Rattle.runs.specs.Runs.{Filter, answers, written}
use Rattle.runs.specs.View.{number}
use Rattle.runs.specs.declared.refusal.Refusal.{Refusal}
use Rattle.cascade_theory.specs.Cascade.{cascade}
use Rattle.fir_theory.specs.Fir.{fir, from_coeffs}
use Rattle.limits.specs.Limits.{max_taps}
use Rattle.design_cascade.specs.LowPass.{butterworth_lp}

pub record Stepped : Type 0 where
  pub refusal : ℕ
  pub output : List Float

-- the record's own refusal, then an output that is too short; then the answers of the steps in the first places
unfoldable pub steps_of : (F : Filter) → ℕ → F.State → List Float → List Float → Stepped
steps_of F n s input output =
    cond (eqb n no_refusal)
    (cond (ltb (length output) (length input)) (record { refusal = short_output; output = output })
    (record { refusal = no_refusal; output = written (answers F s input) output }))
    (record { refusal = n; output = output })

-- of a record of the code that was made or refused, given how it is read as the filter's state
abbrev pub steps_made : (F : Filter) {R : Type 0} (view : R → F.State) → Result R Refusal → List Float → List Float → Stepped
steps_made F view (Ok r) input output = steps_of F no_refusal (view r) input output
steps_made F view (Err n) input output = record { refusal = number n; output = output }

-- through a Butterworth low pass
unfoldable pub cascade_steps : ℕ → Float → Float → List Float → List Float → Stepped
cascade_steps order cutoff rate input output = let d = butterworth_lp order cutoff rate in steps_of (cascade binary64) d.refusal d.cascade input output

-- through ready-made taps
unfoldable pub fir_steps : List Float → List Float → List Float → Stepped
fir_steps coeffs input output = let m = from_coeffs max_taps coeffs in steps_of (fir max_taps binary64) m.refusal m.filter input output
