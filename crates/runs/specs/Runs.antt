-- 01 "Run answer": what a step, a block and a reset answer and leave, for any filter, given its check and what one sample does.
use Rattle.std.specs.Prelude.{ℕ, ◌+◌, ◌≡◌, Bool, true, false, not, ◌||◌, cond, List, [], ◌∷◌, ltb, length, Float}
use Rattle.std.specs.Float.Ieee.Scale.{finite}
use Rattle.limits.specs.Zero.{plus_zero}
use Rattle.runs.specs.Refusals.{no_refusal, short_output}

-- a sample answer: Clear with a number, Clouded with a number, or Refused with its refusal number
pub data Answer : Type 0 where
  clear clouded : Float → Answer
  refused : ℕ → Answer

-- y with the mark b
abbrev pub marked : Bool → Float → Answer
marked true y = clouded y
marked false y = clear y

abbrev pub is_clouded : Answer → Bool
is_clouded (clear y) = false
is_clouded (clouded y) = true
is_clouded (refused n) = false

-- the number of an answer; a refused one has none: +0
abbrev pub number_of : Answer → Float
number_of (clear y) = y
number_of (clouded y) = y
number_of (refused n) = plus_zero

-- the number that refused it, or 0
abbrev pub refusal_of : Answer → ℕ
refusal_of (clear y) = no_refusal
refusal_of (clouded y) = no_refusal
refusal_of (refused n) = n

-- how many are Clouded
unfoldable pub clouded_in : List Answer → ℕ
clouded_in [] = 0
clouded_in (a ∷ rest) = cond (is_clouded a) 1 0 + clouded_in rest

-- what an answer makes of an output place: its number; a refused one leaves the place
abbrev pub placed : Answer → Float → Float
placed (clear y) old = y
placed (clouded y) old = y
placed (refused n) old = old

-- answers in the first places of an output, whose later places are as they were
unfoldable pub written : List Answer → List Float → List Float
written [] output = output
written (a ∷ rest) [] = []
written (a ∷ rest) (old ∷ output) = placed a old ∷ written rest output

-- whether some number is an infinity or a NaN
unfoldable pub not_all_finite : List Float → Bool
not_all_finite [] = false
not_all_finite (x ∷ xs) = not (finite x) || not_all_finite xs

-- whether all are finite
abbrev pub all_finite : List Float → Bool
all_finite xs = not (not_all_finite xs)

-- A filter is a kind of record and what it does.
pub record Filter : Type 1 where
  pub State : Type 0
  -- whether a record passes its check, and the number that refuses one that does not
  pub check : State → Bool
  pub refusal : ℕ
  -- of a record that passes: the number it answers to a sample, whether the answer is Clouded, and the record after it
  pub value : State → Float → Float
  pub mark : State → Float → Bool
  pub next : State → Float → State
  -- the record after a reset
  pub cleared : State → State

-- what a step returns, what a reset returns, and what a block returns together with its output after it
pub record Step (S : Type 0) : Type 0 where
  pub answer : Answer
  pub state : S

pub record Reset (S : Type 0) : Type 0 where
  pub refusal : ℕ
  pub state : S

pub record Block (S : Type 0) : Type 0 where
  pub refusal : ℕ
  pub clouded : ℕ
  pub state : S
  pub output : List Float

-- a refused block counts 0 and leaves the record and the output
abbrev pub refused_block : {S : Type 0} → ℕ → S → List Float → Block S
refused_block n s output = record { refusal = n; clouded = 0; state = s; output = output }

module _ (F : Filter) where
  abbrev pub answer : F.State → Float → Answer
  answer s x = marked (F.mark s x) (F.value s x)

  -- a refused call returns its number and the record unchanged
  unfoldable pub step : F.State → Float → Step F.State
  step s x =
      cond (F.check s) (record { answer = answer s x; state = F.next s x })
      (record { answer = refused F.refusal; state = s })

  unfoldable pub reset : F.State → Reset F.State
  reset s = cond (F.check s) (record { refusal = no_refusal; state = F.cleared s }) (record { refusal = F.refusal; state = s })

  -- samples one after the other, each a single step: the answers, and the record after them
  unfoldable pub answers : F.State → List Float → List Answer
  answers s [] = []
  answers s (x ∷ xs) = (step s x).answer ∷ answers (step s x).state xs

  unfoldable pub after : F.State → List Float → F.State
  after s [] = s
  after s (x ∷ xs) = after (step s x).state xs

  -- the check first, then the output's length
  unfoldable pub block : F.State → List Float → List Float → Block F.State
  block s input output =
      cond (F.check s)
      (cond (ltb (length output) (length input)) (refused_block short_output s output)
      (record { refusal = no_refusal; clouded = clouded_in (answers s input); state = after s input; output = written (answers s input) output }))
      (refused_block F.refusal s output)

-- 01 "Forgetting rule": fresh means as an accepted design, set of ready-made taps or reset returned it: the check passes, and a reset would change nothing
pub record Fresh (F : Filter) (s : F.State) : Type 0 where
  pub checked : F.check s ≡ true
  pub cleared : F.cleared s ≡ s
