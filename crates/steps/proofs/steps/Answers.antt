-- `steps::steps` meets its contract.
use mathlib.Core.Path.{refl}
use native.Mathlib.Omega.{arith}
use Rattle.steps.proofs.Laws.{steps-short, steps-ran}
use Rattle.steps.proofs.steps.Goals as goal

pub returns-then-output-input : goal.returns-then-output-input
returns-then-output-input g c =
    rw c.in_ok-start.was (steps-short g.R.FilterRecord.theory _ _ c.args.input.now c.args.output.now refl (omega arith))

pub returns : goal.returns
returns g c = rw c.in_ok-start.was (steps-ran g.R.FilterRecord.theory _ _ c.args.input.now c.args.output.now refl (omega arith) c.run.ensures)
