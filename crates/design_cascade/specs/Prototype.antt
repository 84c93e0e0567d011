-- From a prototype to a cascade: one section for each pole pair, and the first-order part of the real pole where the order is odd.
use Rattle.std.specs.Prelude.{ℕ, ◌/◌, ◌%◌, false, cond, eqb}
use Rattle.std.specs.Float.Ieee.{neg}
use Rattle.limits.specs.Limits.{max_sections}
use Rattle.scalar.specs.Operators.{◌⊘◌}
use Rattle.scalar.specs.Constants.{one}
use Rattle.cascade_theory.specs.Section.{SectionRecord}
use Rattle.cascade_theory.specs.FirstOrder.{FirstOrderRecord, blank_first}
use Rattle.cascade_theory.specs.Cascade.{CascadeRecord}
use Rattle.lists.specs.Lists.{up_to}
use Rattle.design_cascade.specs.Design.{padded}
use Rattle.design_poles.specs.Butterworth.{lp_first, hp_first}
use Rattle.design_poles.specs.Chebyshev.{cheb_first}
use Rattle.design_cascade.specs.Butterworth.{lp_pair, hp_pair}
use Rattle.design_cascade.specs.Chebyshev.{cheb1_pair, cheb2_pair}
use Rattle.design_cascade.specs.declared.prototype.Prototype.{Prototype}
use Rattle.design_cascade.specs.declared.prototype.Prototype.TheVariants.{ButterworthLow, ButterworthHigh, ChebyshevI, ChebyshevII}

-- the section of pair m of order n
abbrev pub pair_of : Prototype → ℕ → ℕ → SectionRecord
pair_of (ButterworthLow k) n m = lp_pair n m k
pair_of (ButterworthHigh k) n m = hp_pair n m k
pair_of (ChebyshevI ellipse k) n m = cheb1_pair n m ellipse k
pair_of (ChebyshevII ellipse k) n m = cheb2_pair n m ellipse k

-- the part of the real pole: of type I −sinh a, of type II (−1)/sinh a
abbrev pub real_part : Prototype → FirstOrderRecord
real_part (ButterworthLow k) = lp_first k
real_part (ButterworthHigh k) = hp_first k
real_part (ChebyshevI ellipse k) = cheb_first (neg ellipse.sinh_a) k
real_part (ChebyshevII ellipse k) = cheb_first (neg one ⊘ ellipse.sinh_a) k

-- an odd order has it
unfoldable pub first_of : Prototype → ℕ → FirstOrderRecord
first_of p n = cond (eqb (n % 2) 0) blank_first (real_part p)

unfoldable pub prototype_cascade : Prototype → ℕ → CascadeRecord
prototype_cascade p n = record {
  sections = padded max_sections (up_to (pair_of p n) (n / 2));
  count = n / 2;
  first = first_of p n;
  has_first = eqb (n % 2) 1;
  clouded = false;
}
