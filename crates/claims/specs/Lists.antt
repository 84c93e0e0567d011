-- Demand 3 of the calls themselves: lists of calls of the code, each on the record that the call before it returned, and of the C library,
-- each on what the call before it left in the slices.
use Rattle.std.specs.Prelude.{◌≡◌, List, [], ◌∷◌, ℕ, Float}
use Rattle.std.specs.Float.{binary64}
use Rattle.runs.specs.Runs as Runs
use Rattle.runs.specs.View.{refusal_in, count_in, answer_view, updated_view, reset_view, block_view}
use Rattle.runs.specs.declared.results.UpdateResult.{UpdateResult}
use Rattle.runs.specs.declared.results.ResetResult.{ResetResult}
use Rattle.runs.specs.declared.results.BlockResult.{BlockResult}
use Rattle.runs.specs.Forgetting.{Call, step, block, reset, Outcome, stepped, blocked, was_reset, run}
use Rattle.cascade_theory.specs.Cascade.{cascade}
use Rattle.cascade.specs.View.{cascade_view}
use Rattle.cascade.specs.declared.Cascade.{Cascade}
use Rattle.fir_theory.specs.Fir.{fir}
use Rattle.limits.specs.Limits.{max_taps}
use Rattle.fir.specs.View.{taps_view}
use Rattle.fir.specs.declared.TapRecord.{TapRecord}
use Rattle.cascade_theory.specs.Plain.{CascadeForgets}
use Rattle.fir_theory.specs.Plain.{FirForgets}
use Rattle.c_layout.specs.Layout.{cascade_at}
use Rattle.c_calls.specs.Kinds.{taps_at, cascade_kind, fir_kind}
use Rattle.c_calls.specs.Lists.{CCalls}

-- ---- the code: FilterRecord::update, ::block and ::reset of a record that is the filter F and is read by `view`. A premise of each call is the
-- method's `ensures`, word for word.
module _ (F : Runs.Filter) {R : Type 0} (view : R → F.State) where
  pub data Calls : R → List Call → List Outcome → Type 0 where
    ended : (self : R) → Calls self [] []
    update_called : (self : R) (x : Float) (r : UpdateResult R) (calls : List Call) (outcomes : List Outcome)
        → updated_view view r ≡ Runs.step F (view self) x
        → Calls r.record calls outcomes → Calls self (step x ∷ calls) (stepped (answer_view r.answer) ∷ outcomes)
    block_called : (self : R) (input output output' : List Float) (r : BlockResult R) (calls : List Call) (outcomes : List Outcome)
        → block_view view r output' ≡ Runs.block F (view self) input output
        → Calls r.record calls outcomes
        → Calls self (block input output ∷ calls) (blocked (refusal_in r.outcome) (count_in r.outcome) output' ∷ outcomes)
    reset_called : (self : R) (r : ResetResult R) (calls : List Call) (outcomes : List Outcome)
        → reset_view view r ≡ Runs.reset F (view self)
        → Calls r.record calls outcomes → Calls self (reset ∷ calls) (was_reset (refusal_in r.outcome) ∷ outcomes)

-- every such list shows what `run` says, and meets demand 3
pub record CascadeCallsRule (start : Cascade) : Type 0 where
  pub shows : (calls : List Call) (outcomes : List Outcome) → Calls (cascade binary64) cascade_view start calls outcomes
      → outcomes ≡ run (cascade binary64) (cascade_view start) calls
  pub forgets : (calls : List Call) (outcomes : List Outcome) → Calls (cascade binary64) cascade_view start calls outcomes
      → CascadeForgets binary64 (cascade_view start) calls outcomes

pub record FirCallsRule (start : TapRecord) : Type 0 where
  pub shows : (calls : List Call) (outcomes : List Outcome) → Calls (fir max_taps binary64) taps_view start calls outcomes
      → outcomes ≡ run (fir max_taps binary64) (taps_view start) calls
  pub forgets : (calls : List Call) (outcomes : List Outcome) → Calls (fir max_taps binary64) taps_view start calls outcomes
      → FirForgets max_taps binary64 (taps_view start) calls outcomes

-- ---- the C library: lists of its steps, blocks, blocks in place and resets on one state, whatever the slices hold and however long they are
pub record CCascadeRule : Type 0 where
  pub shows : (numbers : List Float) (counts : List ℕ) (calls : List Call) (outcomes : List Outcome) → CCalls cascade_kind numbers counts calls outcomes
      → outcomes ≡ run (cascade binary64) (cascade_at numbers counts) calls
  pub forgets : (numbers : List Float) (counts : List ℕ) (calls : List Call) (outcomes : List Outcome) → CCalls cascade_kind numbers counts calls outcomes
      → CascadeForgets binary64 (cascade_at numbers counts) calls outcomes

pub record CFirRule : Type 0 where
  pub shows : (taps samples : List Float) (counts : List ℕ) (calls : List Call) (outcomes : List Outcome) → CCalls (fir_kind taps) samples counts calls outcomes
      → outcomes ≡ run (fir max_taps binary64) (taps_at taps samples counts) calls
  pub forgets : (taps samples : List Float) (counts : List ℕ) (calls : List Call) (outcomes : List Outcome)
      → CCalls (fir_kind taps) samples counts calls outcomes
      → FirForgets max_taps binary64 (taps_at taps samples counts) calls outcomes
