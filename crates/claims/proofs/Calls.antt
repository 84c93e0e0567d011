-- A list of calls of a record that is a filter shows what `run` says of it.
use mathlib.Core.Path.{◌≡◌, refl}
use mathlib.Core.List.{List}
use Rattle.runs.specs.Runs.{Filter}
use Rattle.runs.specs.Forgetting.{Call, Outcome, run}
use Rattle.runs.proofs.Forgetting.{run_step, run-block, run-reset}
use Rattle.claims.specs.Lists.{Calls, ended, update_called, block_called, reset_called}

module _ (F : Filter) {R : Type 0} (view : R → F.State) where
  pub shown : {self : R} {calls : List Call} {outcomes : List Outcome} → Calls F view self calls outcomes → outcomes ≡ run F (view self) calls
  unfolding run
  shown (ended self) = refl
  shown (update_called self x r calls outcomes e rest) = run_step F (view self) calls x e (shown rest)
  shown (block_called self input output output' r calls outcomes e rest) = run-block F (view self) calls input output e (shown rest)
  shown (reset_called self r calls outcomes e rest) = run-reset F (view self) calls e (shown rest)
