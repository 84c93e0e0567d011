-- 01 "Forgetting rule", demand 3: a list of calls of one filter, the plain filter, and which of their outcomes are equal.
use Rattle.std.specs.Prelude.{ℕ, suc, ◌≡◌, Bool, true, false, ◌&&◌, ◌||◌, cond, List, [], ◌∷◌, ◌++◌, map, reverse, ltb, length, Float}
use Rattle.std.proofs.Math.Option.{Option, none, some}
use Rattle.runs.specs.Refusals.{no_refusal, short_output}
use Rattle.runs.specs.Runs as Runs
use Rattle.runs.specs.Runs.{Answer, clouded, refused, marked, refusal_of, clouded_in, written, Filter, Fresh}

-- a call with its arguments other than the record; a block brings its own input and output
pub data Call : Type 0 where
  step : Float → Call
  block : List Float → List Float → Call
  reset : Call

-- what a call shows: a step its answer; a block its refusal, how many answers were Clouded, and its output; a reset its refusal
pub data Outcome : Type 0 where
  stepped : Answer → Outcome
  blocked : ℕ → ℕ → List Float → Outcome
  was_reset : ℕ → Outcome

-- ---- the calls of a filter

module _ (F : Filter) where
  unfoldable pub outcome : F.State → Call → Outcome
  outcome s (step x) = stepped (Runs.step F s x).answer
  outcome s (block input output) =
      let b = Runs.block F s input output in
      blocked b.refusal b.clouded b.output
  outcome s reset = was_reset (Runs.reset F s).refusal

  unfoldable pub left : F.State → Call → F.State
  left s (step x) = (Runs.step F s x).state
  left s (block input output) = (Runs.block F s input output).state
  left s reset = (Runs.reset F s).state

  -- each call on the record that the call before it left
  unfoldable pub run : F.State → List Call → List Outcome
  run s [] = []
  run s (c ∷ calls) = outcome s c ∷ run (left s c) calls

-- ---- the plain filter

-- It is fed something of the starting record. The kept samples stand newest first, the present one among them.
pub record Plain : Type 1 where
  pub Fed : Type 0
  -- the number it answers, and whether the answer is Clouded
  pub value : Fed → List Float → Float
  pub mark : Fed → List Float → Bool
  -- whether an answer is the plain filter's, whatever the record held at the start, once so many samples are kept
  pub enough : Fed → ℕ → Bool

-- a block whose output is too short
abbrev pub is_short : List Float → List Float → Bool
is_short input output = ltb (length output) (length input)

-- the samples kept after a call: those answered since the start or the last reset
unfoldable pub kept_after : List Float → Call → List Float
kept_after kept (step x) = x ∷ kept
kept_after kept (block input output) = cond (is_short input output) kept (reverse input ++ kept)
kept_after kept reset = []

module _ (P : Plain) (fed : P.Fed) where
  abbrev pub plain_answer : List Float → Answer
  plain_answer kept = marked (P.mark fed kept) (P.value fed kept)

  -- a step adds its sample and answers; these are the answers of steps in order
  unfoldable pub plain_answers : List Float → List Float → List Answer
  plain_answers kept [] = []
  plain_answers kept (x ∷ xs) = plain_answer (x ∷ kept) ∷ plain_answers (x ∷ kept) xs

  -- a block whose output is too short draws 5 and changes nothing; any other is its steps in order, answers at the front of the output, counting the Clouded
  -- ones
  unfoldable pub plain_outcome : List Float → Call → Outcome
  plain_outcome kept (step x) = stepped (plain_answer (x ∷ kept))
  plain_outcome kept (block input output) =
      cond (is_short input output) (blocked short_output 0 output)
      (blocked no_refusal (clouded_in (plain_answers kept input)) (written (plain_answers kept input) output))
  plain_outcome kept reset = was_reset no_refusal

  unfoldable pub plain_run : List Float → List Call → List Outcome
  plain_run kept [] = []
  plain_run kept (c ∷ calls) = plain_outcome kept c ∷ plain_run (kept_after kept c) calls

-- ---- what is equal from a record that is not fresh

-- the samples that a call answers
unfoldable pub answered : Call → List Float
answered (step x) = x ∷ []
answered (block input output) = cond (is_short input output) [] input
answered reset = []

abbrev pub is_reset : Call → Bool
is_reset (step x) = false
is_reset (block input output) = false
is_reset reset = true

-- Of each of these samples, with k kept before: whether its answer is due, there having been a reset or enough samples being kept with it.
unfoldable pub dues : (P : Plain) → P.Fed → Bool → ℕ → List Float → List Bool
dues P fed since k [] = []
dues P fed since k (x ∷ xs) = (since || P.enough fed (suc k)) ∷ dues P fed since (suc k) xs

abbrev pub all : List Bool → Bool
all [] = true
all (d ∷ ds) = d && all ds

-- what is due is seen
abbrev pub shown : {A : Type 0} → Bool → A → Option A
shown true a = some a
shown false a = none

-- the output places whose own answers are due, and those behind the answers
unfoldable pub places : List Bool → List Float → List (Option Float)
places [] output = map some output
places (d ∷ ds) [] = []
places (d ∷ ds) (y ∷ output) = shown d y ∷ places ds output

-- what is seen of an outcome: a step's refusal, and its answer; a block's refusal, its count where all its answers are due, and its places; a reset's refusal
pub data Seen : Type 0 where
  of_step : ℕ → Option Answer → Seen
  of_block : ℕ → Option ℕ → List (Option Float) → Seen
  of_reset : ℕ → Seen

unfoldable pub seen_of : List Bool → Outcome → Seen
seen_of ds (stepped a) = of_step (refusal_of a) (shown (all ds) a)
seen_of ds (blocked refusal count output) = of_block refusal (shown (all ds) count) (places ds output)
seen_of ds (was_reset refusal) = of_reset refusal

-- of a list of calls; since: there was a reset
unfoldable pub seen : (P : Plain) → P.Fed → Bool → List Float → List Call → List Outcome → List Seen
seen P fed since kept [] outcomes = []
seen P fed since kept (c ∷ calls) [] = []
seen P fed since kept (c ∷ calls) (o ∷ outcomes) =
    seen_of (dues P fed since (length kept) (answered c)) o ∷ seen P fed (since || is_reset c) (kept_after kept c) calls outcomes

-- ---- the claim

-- what a call on a record that fails its check shows: the refusal, and a block's output as it was
abbrev pub refused_by : ℕ → Call → Outcome
refused_by n (step x) = stepped (refused n)
refused_by n (block input output) = blocked n 0 output
refused_by n reset = was_reset n

-- DEMAND 3, of a list of calls of the filter F that starts at the record s and shows these outcomes, and of the plain filter P that is fed what `feed` takes
-- from s
pub record Forgets (F : Filter) (P : Plain) (feed : F.State → P.Fed) (s : F.State) (calls : List Call) (outcomes : List Outcome) : Type 0 where
  -- from a fresh record: every answer, mark, count, refusal and output place
  pub from_fresh : Fresh F s → outcomes ≡ plain_run P (feed s) [] calls
  -- from any other that passes its check: all that is seen
  pub from_any : F.check s ≡ true → seen P (feed s) false [] calls outcomes ≡ seen P (feed s) false [] calls (plain_run P (feed s) [] calls)
  -- from one that does not: every call is refused
  pub from_refused : F.check s ≡ false → outcomes ≡ map (refused_by F.refusal) calls
