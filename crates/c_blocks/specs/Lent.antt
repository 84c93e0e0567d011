-- What a step, a reset and a block of a lent record show, and what they leave in its slices.
use Rattle.std.specs.Prelude.{◌≡◌, ◌≢◌, ℕ, cond, Option, Some, None, List, [], ◌∷◌, eqb, length, Float}
use Rattle.runs.specs.Refusals.{no_refusal}
use Rattle.runs.specs.Runs.{Answer, refusal_of}
use Rattle.runs.specs.Lent.{lent_step, lent_reset, lent_block}
use Rattle.fir_step.specs.declared.Counts.{Counts}
use Rattle.c_layout.specs.Layout.{count_places}
use Rattle.c_calls.specs.Kinds.{Kind}
use Rattle.c_calls.specs.Calls.{record_of, fitting}

module _ (K : Kind) (numbers : List Float) (counts : List ℕ) where
  -- the slices after a call that was refused by a number, or by 0 was not: what they held, or the record after it as it is written
  pub record Leaves (refusal : ℕ) (numbers' : List Float) (counts' : List ℕ) : Type 0 where
    pub fit : K.fit numbers' counts' ≡ K.fit numbers counts
    pub numbers_are : numbers' ≡ cond (eqb refusal no_refusal) (K.numbers (K.read numbers' counts')) numbers
    pub counts_are : counts' ≡ cond (eqb refusal no_refusal) (K.counts (K.read numbers' counts')) counts

  pub record StepsLent (x : Float) (answer : Answer) (numbers' : List Float) (counts' : List ℕ) : Type 0 where
    pub ran : record { answer = answer; state = K.read numbers' counts' } ≡ lent_step K.filter (fitting K numbers counts) (record_of K numbers counts) x
    pub leaves : Leaves (refusal_of answer) numbers' counts'

  pub record ResetsLent (refusal : ℕ) (numbers' : List Float) (counts' : List ℕ) : Type 0 where
    pub ran : record { refusal = refusal; state = K.read numbers' counts' } ≡ lent_reset K.filter (fitting K numbers counts) (record_of K numbers counts)
    pub leaves : Leaves refusal numbers' counts'

  pub record BlocksLent (input output : List Float) (refusal clouded : ℕ) (output' numbers' : List Float) (counts' : List ℕ) : Type 0 where
    pub ran : record { refusal = refusal; clouded = clouded; state = K.read numbers' counts'; output = output' }
        ≡ lent_block K.filter (fitting K numbers counts) (record_of K numbers counts) input output
    pub leaves : Leaves refusal numbers' counts'

-- the counts of a tap record that three places hold, or none
abbrev pub CountsIn : Option Counts → List ℕ → Type 0
CountsIn (Some c) counts = counts ≡ c.length ∷ c.held ∷ c.window ∷ []
CountsIn None counts = length counts ≢ count_places
