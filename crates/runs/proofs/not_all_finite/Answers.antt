-- `runs::not_all_finite` meets its contract: a turn of its loop is a turn of `Counting`.
use mathlib.Core.Path.{ap, ◌∙◌}
use mathlib.Core.Bool.{Bool, not}
use Rattle.std.specs.Int.{from_bool}
use Rattle.runs.proofs.Scan.{count_turn, count-done}
use Rattle.runs.proofs.not_all_finite.Goals as goal

pub loop-x-preserved : goal.loop-x-preserved
loop-x-preserved c = count_turn _ _ c.loop-x.invariant c.loop-x-test.true (c.from-count.ensures ∙ ap (λ (b : Bool). from_bool (not b)) c.is_finite.ensures)

pub returns : goal.returns
returns c = count-done _ _ c.loop-x.invariant c.loop-x-test.false
