-- What each call that runs or resets a filter returns, and what every slice holds after it. A refused call leaves every slice.
use Rattle.std.specs.Prelude.{ℕ, Bool, ◌&&◌, cond, List, [], ◌∷◌, eqb, length, Float}
use Rattle.runs.specs.Refusals.{no_refusal, bad_call}
use Rattle.runs.specs.Runs.{number_of, is_clouded, refusal_of, Step, Block}
use Rattle.runs.specs.Lent.{lent_step, lent_reset, lent_block}
use Rattle.c_layout.specs.Layout.{flag}
use Rattle.c_calls.specs.Kinds.{Kind}

-- ---- a step and a block: the numbers and counts of the record, the places of the answers, and the place of the count of Clouded answers
pub record CallRecord : Type 0 where
  pub refusal : ℕ
  pub numbers : List Float
  pub counts : List ℕ
  pub answers : List Float
  pub clouded : List ℕ

module _ (K : Kind) (numbers : List Float) (counts : List ℕ) where
  -- the record, and the test of the slices that goes before its own check
  abbrev pub record_of : K.filter.State
  record_of = K.read numbers counts

  abbrev pub fitting : K.filter.State → Bool
  fitting s = K.fit numbers counts

  module _ (answers : List Float) (tally : List ℕ) where
    -- a refused call
    abbrev pub unchanged : ℕ → CallRecord
    unchanged n = record { refusal = n; numbers = numbers; counts = counts; answers = answers; clouded = tally }

    -- an accepted one, by the record after it, its answers and how many were Clouded
    abbrev pub accepted : K.filter.State → List Float → ℕ → CallRecord
    accepted s ys n = record { refusal = no_refusal; numbers = K.numbers s; counts = K.counts s; answers = ys; clouded = n ∷ [] }

    abbrev pub stepped : Step K.filter.State → CallRecord
    stepped s = cond (eqb (refusal_of s.answer) no_refusal) (accepted s.state (number_of s.answer ∷ []) (flag (is_clouded s.answer)))
        (unchanged (refusal_of s.answer))

    abbrev pub ran : Block K.filter.State → CallRecord
    ran b = cond (eqb b.refusal no_refusal) (accepted b.state b.output b.clouded) (unchanged b.refusal)

  -- one sample x: its answer goes to one place, and so does how many answers were Clouded, 0 or 1
  unfoldable pub step_call : Float → List Float → List ℕ → CallRecord
  step_call x answer tally =
      cond (eqb (length answer) 1 && eqb (length tally) 1) (stepped answer tally (lent_step K.filter fitting record_of x)) (unchanged answer tally bad_call)

  -- a block: its answers go to the first places of the output, and how many were Clouded to one place
  unfoldable pub block_call : List Float → List Float → List ℕ → CallRecord
  block_call input output tally =
      cond (eqb (length tally) 1) (ran output tally (lent_block K.filter fitting record_of input output)) (unchanged output tally bad_call)

  -- a block in place: the block whose input and output both hold what the buffer holds before the call
  unfoldable pub block_in_place_call : List Float → List ℕ → CallRecord
  block_in_place_call buffer tally = block_call buffer buffer tally

-- ---- a reset
pub record StoredRecord : Type 0 where
  pub refusal : ℕ
  pub numbers : List Float
  pub counts : List ℕ

-- slices as they were
abbrev pub not_stored : List Float → List ℕ → ℕ → StoredRecord
not_stored numbers counts n = record { refusal = n; numbers = numbers; counts = counts }

unfoldable pub reset_call : Kind → List Float → List ℕ → StoredRecord
reset_call K numbers counts =
    let s = lent_reset K.filter (fitting K numbers counts) (record_of K numbers counts) in
    cond (eqb s.refusal no_refusal) (record { refusal = no_refusal; numbers = K.numbers s.state; counts = K.counts s.state })
    (not_stored numbers counts s.refusal)
