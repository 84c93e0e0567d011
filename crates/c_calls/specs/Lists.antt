-- Lists of calls of the C functions on one filter, each on what the call before it left in the filter's slices. A premise of each call is its contract,
-- word for word, at cascade_kind for a cascade and at fir_kind for a tap record.
use Rattle.std.specs.Prelude.{ℕ, ◌≡◌, cond, List, [], ◌∷◌, eqb, get_or, Float}
use Rattle.std.specs.Float.{nan}
use Rattle.runs.specs.Refusals.{no_refusal, bad_call}
use Rattle.runs.specs.Runs.{Answer, marked, refused}
use Rattle.runs.specs.Forgetting.{Call, step, block, reset, Outcome, stepped, blocked, was_reset}
use Rattle.c_calls.specs.Kinds.{Kind}
use Rattle.c_calls.specs.Calls.{step_call, block_call, block_in_place_call, reset_call}

-- what a step shows: its number in `answer`, with its mark in `clouded`, or the number that refused it
abbrev pub answer_shown : ℕ → List Float → List ℕ → Answer
answer_shown refusal answer clouded = cond (eqb refusal no_refusal) (marked (eqb (get_or clouded 0 0) 1) (get_or answer 0 nan)) (refused refusal)

-- how many answers of a block were Clouded: the number in `clouded`; a refused block leaves that place, and its number says that there were none
abbrev pub count_shown : ℕ → List ℕ → ℕ
count_shown refusal clouded = cond (eqb refusal no_refusal) (get_or clouded 0 0) 0

module _ (K : Kind) where
  -- one call: the number it returned, the slices of the filter before and after it, and the call and its outcome in the words of the forgetting rule
  pub data CCall : ℕ → List Float → List ℕ → List Float → List ℕ → Call → Outcome → Type 0 where
    step_called : (r : ℕ) (numbers numbers' : List Float) (counts counts' : List ℕ) (x : Float) (answer answer' : List Float) (clouded clouded' : List ℕ)
        → record { refusal = r; numbers = numbers'; counts = counts'; answers = answer'; clouded = clouded' } ≡ step_call K numbers counts x answer clouded
        → CCall r numbers counts numbers' counts' (step x) (stepped (answer_shown r answer' clouded'))
    block_called : (r : ℕ) (numbers numbers' : List Float) (counts counts' : List ℕ) (input output output' : List Float) (clouded clouded' : List ℕ)
        → record { refusal = r; numbers = numbers'; counts = counts'; answers = output'; clouded = clouded' } ≡ block_call K numbers counts input output clouded
        → CCall r numbers counts numbers' counts' (block input output) (blocked r (count_shown r clouded') output')
    block_in_place_called : (r : ℕ) (numbers numbers' : List Float) (counts counts' : List ℕ) (buffer buffer' : List Float) (clouded clouded' : List ℕ)
        → record { refusal = r; numbers = numbers'; counts = counts'; answers = buffer'; clouded = clouded' }
        ≡ block_in_place_call K numbers counts buffer clouded
        → CCall r numbers counts numbers' counts' (block buffer buffer) (blocked r (count_shown r clouded') buffer')
    reset_called : (r : ℕ) (numbers numbers' : List Float) (counts counts' : List ℕ)
        → record { refusal = r; numbers = numbers'; counts = counts' } ≡ reset_call K numbers counts
        → CCall r numbers counts numbers' counts' reset (was_reset r)

  -- a list of them; a call refused by 13 is no call of the filter, and is left out of what was called and shown
  pub data CCalls : List Float → List ℕ → List Call → List Outcome → Type 0 where
    ended : (numbers : List Float) (counts : List ℕ) → CCalls numbers counts [] []
    called : (r : ℕ) (numbers numbers' : List Float) (counts counts' : List ℕ) (c : Call) (o : Outcome) (calls : List Call) (outcomes : List Outcome)
        → CCall r numbers counts numbers' counts' c o → (r ≡ bad_call → ⊥) → CCalls numbers' counts' calls outcomes
        → CCalls numbers counts (c ∷ calls) (o ∷ outcomes)
    badly_called : (numbers numbers' : List Float) (counts counts' : List ℕ) (c : Call) (o : Outcome) (calls : List Call) (outcomes : List Outcome)
        → CCall bad_call numbers counts numbers' counts' c o → CCalls numbers' counts' calls outcomes → CCalls numbers counts calls outcomes
