-- `design_cascade::butterworth::bp_sections` meets its contract.
use mathlib.Core.Path.{◌≡◌}
use Prim.Native.Nat.{◌-◌, ◌/◌, ◌%◌}
use native.Mathlib.Omega.{arith}
use lib.ListN.{length}
use borrow.Author.Tests.{eq-eqb, ne_eqb}
use Rattle.limits.specs.Limits.{max_sections}
use Rattle.sections.specs.View.{section_view}
use Rattle.design_cascade.specs.BandPass.{bp_up_to, bp_sections}
use Rattle.design_cascade.proofs.Places.{place, band-length}
use Rattle.design_cascade.proofs.butterworth.bp_sections.Goals as goal

pub returns-then-order-eq1 : goal.returns-then-order-eq1
unfolding bp_sections
returns-then-order-eq1 c =
    let n = c.args.order.value in
    let pairs = c.bp_sections_from_pairs-sections in
    let i : n - 1 ≡ length (bp_up_to n c.args.bw c.args.omega0_sq (n / 2)) = omega
    (arith, band-length n c.args.bw c.args.omega0_sq (n / 2), c.if-order-eq1.true) in
    rw (ne_eqb (n % 2) 0 (λ e. omega (arith, e, c.if-order-eq1.true)))
    (place section_view pairs.result max_sections (n - 1) (bp_up_to n c.args.bw c.args.omega0_sq (n / 2)) c.bp_biquad_from_lp_real_pole.result _
    pairs.ensures i (omega (arith, c.args.order.within_limit)) c.bp_biquad_from_lp_real_pole.ensures)

pub returns-else-order-eq1 : goal.returns-else-order-eq1
unfolding bp_sections
returns-else-order-eq1 c = rw (eq-eqb (c.args.order.value % 2) 0 (omega (arith, c.if-order-eq1.false))) c.bp_sections_from_pairs-sections.ensures
