-- A record lent as slices: a step, a reset and a block of it, where the slices fit the record. Slices that do not are refused by 13 before
-- anything else, and the call changes nothing.
use Rattle.std.specs.Prelude.{ℕ, Bool, cond, List, Float}
use Rattle.runs.specs.Refusals.{no_refusal, bad_call}
use Rattle.runs.specs.Runs.{Filter, Step, Reset, Block, refused, refused_block, step, reset, block}

module _ (F : Filter) (fits : F.State → Bool) where
  -- the number that refuses a lent record, or 0
  unfoldable pub lent_refusal : F.State → ℕ
  lent_refusal s = cond (fits s) (cond (F.check s) no_refusal F.refusal) bad_call

  unfoldable pub lent_step : F.State → Float → Step F.State
  lent_step s x = cond (fits s) (step F s x) (record { answer = refused bad_call; state = s })

  unfoldable pub lent_reset : F.State → Reset F.State
  lent_reset s = cond (fits s) (reset F s) (record { refusal = bad_call; state = s })

  unfoldable pub lent_block : F.State → List Float → List Float → Block F.State
  lent_block s input output = cond (fits s) (block F s input output) (refused_block bad_call s output)
