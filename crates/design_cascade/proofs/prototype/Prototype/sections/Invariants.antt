-- `design_cascade::prototype::Prototype::sections` meets its contract: the sections of the first m pairs are in place.
use mathlib.Core.Path.{◌≡◌}
use mathlib.Core.List.{map}
use lib.ListN.{take}
use Rattle.sections.specs.View.{section_view}
use Rattle.lists.specs.Lists.{up_to}
use Rattle.design_cascade.specs.Prototype.{pair_of}
use Rattle.design_cascade.proofs.prototype.Prototype.sections.Given as goal

abbrev pub invariant-loop-m : goal.invariant-loop-m
invariant-loop-m l = map section_view (take l.m l.used) ≡ up_to (pair_of l.self l.order.value) l.m
