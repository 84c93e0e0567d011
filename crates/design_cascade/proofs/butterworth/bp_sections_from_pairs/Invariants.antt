-- `design_cascade::butterworth::bp_sections_from_pairs` meets its contract: the sections of the first m pairs are in place.
use mathlib.Core.Path.{◌≡◌}
use mathlib.Core.List.{map}
use Rattle.limits.specs.Limits.{max_sections}
use Rattle.sections.specs.View.{section_view}
use Rattle.design_cascade.specs.Design.{padded}
use Rattle.design_cascade.specs.BandPass.{bp_up_to}
use Rattle.design_cascade.proofs.butterworth.bp_sections_from_pairs.Given as goal

abbrev pub invariant-loop-m : goal.invariant-loop-m
invariant-loop-m l = map section_view l.sections ≡ padded max_sections (bp_up_to l.order.value l.bw l.omega0_sq l.m)
