-- 02's Q-5, "A figure for the FIR's rounding", of a tap record of the code.
use Rattle.std.specs.Prelude.{◌≡◌, true, List, Float}
use Rattle.std.specs.Float.{binary64}
use Rattle.limits.specs.Limits.{max_taps}
use Rattle.lists.specs.Lists.{Each}
use Rattle.exact.specs.Scaled.{IsValue}
use Rattle.runs.specs.Runs.{step, answers}
use Rattle.runs.specs.View.{answer_view, updated_view}
use Rattle.runs.specs.declared.results.UpdateResult.{UpdateResult}
use Rattle.fir_theory.specs.Fir.{next, held_of, check_taps, fir}
use Rattle.fir_rounding.specs.Figure.{most_taps, figure_bits, Count, Taken, Within, EachWithin}
use Rattle.fir.specs.View.{taps_view}
use Rattle.fir.specs.declared.TapRecord.{TapRecord}

-- a record and a sample x: the record passes its check, and has such taps and, after x, such samples
pub record FirRounding (self : TapRecord) (x : Float) : Type 0 where
  -- the run step
  pub run_step : check_taps max_taps (taps_view self) ≡ true → Taken binary64 most_taps (taps_view self) (held_of (next (taps_view self) x))
      → Within binary64 figure_bits (taps_view self) x (step (fir max_taps binary64) (taps_view self) x).answer
  -- and what TapRecord::update returns, whose `ensures` is the first premise, word for word
  pub update : (r : UpdateResult TapRecord) → updated_view taps_view r ≡ step (fir max_taps binary64) (taps_view self) x
      → check_taps max_taps (taps_view self) ≡ true → Taken binary64 most_taps (taps_view self) (held_of (next (taps_view self) x))
      → Within binary64 figure_bits (taps_view self) x (answer_view r.answer)

-- a record that passes its check, with such taps and such samples: the answers of a block of such samples
pub record FirBlockRounding (self : TapRecord) : Type 0 where
  pub answers_within : (input : List Float) → check_taps max_taps (taps_view self) ≡ true → Taken binary64 most_taps (taps_view self) (held_of (taps_view self))
      → Each (IsValue binary64) input → Each (Count binary64) input
      → EachWithin binary64 figure_bits (taps_view self) input (answers (fir max_taps binary64) (taps_view self) input)
