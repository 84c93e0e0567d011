-- The code's refusals, answers and results, case by case, as these definitions have them.
use Rattle.std.specs.Prelude.{ℕ, Bool, cond, List, Float, Result, Ok, Err}
use Rattle.runs.specs.Refusals.{no_refusal, invalid_order, invalid_frequency, invalid_sample_rate, invalid_ripple, short_output, bad_cascade, bad_taps}
use Rattle.runs.specs.Refusals.{bad_call, invalid_class, invalid_header, truncated_block, channel_not_present, non_finite_coefficient}
use Rattle.runs.specs.Runs.{Answer, clear, clouded, refused, Step, Reset, Block}
use Rattle.runs.specs.declared.refusal.Refusal.{Refusal}
use Rattle.runs.specs.declared.refusal.Refusal.TheVariants.{InvalidOrder, InvalidFrequency, InvalidSampleRate, InvalidRipple, ShortOutput, BadCascade, BadTaps}
use Rattle.runs.specs.declared.refusal.Refusal.TheVariants.{BadCall, InvalidClass, InvalidHeader, TruncatedBlock, ChannelNotPresent, NonFiniteCoefficient}
use Rattle.runs.specs.declared.answer.Answer.{Answer as Declared}
use Rattle.runs.specs.declared.answer.Answer.TheVariants.{Clear, Clouded, Refused}
use Rattle.runs.specs.declared.results.UpdateResult.{UpdateResult}
use Rattle.runs.specs.declared.results.ResetResult.{ResetResult}
use Rattle.runs.specs.declared.results.BlockResult.{BlockResult}

-- the number of each refusal, under its name in 01's tables
abbrev pub number : Refusal → ℕ
number InvalidOrder = invalid_order
number InvalidFrequency = invalid_frequency
number InvalidSampleRate = invalid_sample_rate
number InvalidRipple = invalid_ripple
number ShortOutput = short_output
number BadCascade = bad_cascade
number BadTaps = bad_taps
number BadCall = bad_call
number InvalidClass = invalid_class
number InvalidHeader = invalid_header
number TruncatedBlock = truncated_block
number ChannelNotPresent = channel_not_present
number NonFiniteCoefficient = non_finite_coefficient

-- the number that refused a call, or 0
abbrev pub refusal_in : {T : Type 0} → Result T Refusal → ℕ
refusal_in (Ok x) = no_refusal
refusal_in (Err r) = number r

-- how many answers of a block were Clouded; a refused block counts 0
abbrev pub count_in : Result ℕ Refusal → ℕ
count_in (Ok n) = n
count_in (Err r) = 0

-- 01: Clear with a number, Clouded with a number, Refused with its refusal number
abbrev pub answer_view : Declared → Answer
answer_view (Clear y) = clear y
answer_view (Clouded y) = clouded y
answer_view (Refused r) = refused (number r)

-- what a step, a reset and a block return, given how a record is read
module _ {R S : Type 0} (view : R → S) where
  abbrev pub updated_view : UpdateResult R → Step S
  updated_view r = record { answer = answer_view r.answer; state = view r.record }

  abbrev pub reset_view : ResetResult R → Reset S
  reset_view r = record { refusal = refusal_in r.outcome; state = view r.record }

  -- with the output after it
  abbrev pub block_view : BlockResult R → List Float → Block S
  block_view r output = record { refusal = refusal_in r.outcome; clouded = count_in r.outcome; state = view r.record; output = output }

-- 02's Q-3, of what the code made, given whether a record's coefficients are all finite: one that is not all finite is refused by 25
abbrev pub default_of : {R : Type 0} → (R → Bool) → Result R Refusal → Result R Refusal
default_of finite (Ok r) = cond (finite r) (Ok r) (Err NonFiniteCoefficient)
default_of finite (Err n) = Err n
