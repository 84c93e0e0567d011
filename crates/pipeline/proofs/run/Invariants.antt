-- `pipeline::run` meets its contract: a turn of its loop is a turn of `Behind`.
use lib.Ieee.{binary64}
use Rattle.pipeline.specs.View.{four_view, line_view}
use Rattle.cascade_theory.proofs.Skew.{Behind}
use Rattle.pipeline.proofs.run.Given as goal

abbrev pub invariant-loop-i : goal.invariant-loop-i
invariant-loop-i l = Behind binary64 (four_view l.fn.sections) l.input l.initial.output (line_view l.line) l.output l.i
