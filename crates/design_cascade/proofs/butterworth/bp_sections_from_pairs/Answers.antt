-- `design_cascade::butterworth::bp_sections_from_pairs` meets its contract: the sections of the first m pairs are in place.
use mathlib.Core.Path.{ap}
use native.Mathlib.Omega.{arith}
use Rattle.sections.specs.View.{section_view}
use Rattle.design_bandpass.specs.BandPass.{SectionPairRecord}
use Rattle.design_cascade.proofs.Places.{band-none, band-turn}
use Rattle.design_cascade.proofs.butterworth.bp_sections_from_pairs.Goals as goal

pub loop-m-init : goal.loop-m-init
loop-m-init c = rw c.blank-sections.ensures (band-none _ _ _)

pub loop-m-preserved : goal.loop-m-preserved
loop-m-preserved c =
    let p = c.bp_pair in
    band-turn _ _ _ section_view c.loop-m.sections c.loop-m.m p.result.0 p.result.1 c.loop-m.invariant (omega (arith, c.args.order.within_limit))
    (ap (λ (b : SectionPairRecord). b.bq1) p.ensures) (ap (λ (b : SectionPairRecord). b.bq2) p.ensures)
