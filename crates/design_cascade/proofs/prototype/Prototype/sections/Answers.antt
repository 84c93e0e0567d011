-- `design_cascade::prototype::Prototype::sections` meets its contract: the sections of the first m pairs are in place.
use mathlib.Core.Path.{refl}
use native.Mathlib.Omega.{arith}
use lib.ListN.{length-take}
use Rattle.sections.specs.View.{section_view}
use Rattle.lists.specs.Lists.{up_to}
use Rattle.design_cascade.proofs.Places.{up_to-turn, up_to-done, no-places}
use Rattle.design_cascade.proofs.prototype.Prototype.sections.Goals as goal

pub loop-m-init : goal.loop-m-init
unfolding up_to
loop-m-init c = refl

pub loop-m-preserved : goal.loop-m-preserved
loop-m-preserved c = up_to-turn section_view _ c.loop-m.used c.loop-m.m c.section.result c.loop-m.invariant (omega arith) c.section.ensures

pub returns : goal.returns
returns c =
    let long = rw length-take at c.loop-m.auto.used in
    let end = rw length-take at c.loop-m-test.false in
    up_to-done section_view _ c.loop-m.used _ c.loop-m.m _ c.loop-m.invariant (omega (arith, c.args.order.within_limit)) (omega arith)
    (rw c.blank-sections.ensures no-places) (omega (arith, c.args.order.within_limit))
