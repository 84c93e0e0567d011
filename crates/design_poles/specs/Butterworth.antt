-- 000's pole formulas of the low pass and the high pass, operation by operation in the Rust's order.
use Rattle.std.specs.Prelude.{Float}
use Rattle.std.specs.Float.Ieee.{neg}
use Rattle.scalar.specs.Operators.{◌⊕◌, ◌⊖◌, ◌⊗◌, ◌⊘◌}
use Rattle.scalar.specs.Constants.{one, two}
use Rattle.cascade_theory.specs.Section.{SectionRecord, new_section}
use Rattle.cascade_theory.specs.FirstOrder.{FirstOrderRecord, new_first}

-- ---- a pole pair σ ± jω
-- the denominator: a0, and a1 and a2 divided by it
pub record DenominatorRecord : Type 0 where
  pub a0 : Float
  pub a1 : Float
  pub a2 : Float

unfoldable pub denominator_of : Float → Float → Float → DenominatorRecord
denominator_of sigma omega k =
    let p = sigma ⊗ sigma ⊕ omega ⊗ omega in
    let kk = k ⊗ k in
    let a0 = (one ⊖ (two ⊗ sigma) ⊗ k) ⊕ p ⊗ kk in
    record { a0 = a0; a1 = (two ⊗ (p ⊗ kk ⊖ one)) ⊘ a0; a2 = ((one ⊕ (two ⊗ sigma) ⊗ k) ⊕ p ⊗ kk) ⊘ a0 }

unfoldable pub lp_biquad : Float → Float → Float → SectionRecord
lp_biquad sigma omega k =
    let d = denominator_of sigma omega k in
    let b = (k ⊗ k) ⊘ d.a0 in
    new_section b (two ⊗ b) b d.a1 d.a2

unfoldable pub hp_biquad : Float → Float → Float → SectionRecord
hp_biquad sigma omega k =
    let d = denominator_of sigma omega k in
    new_section (one ⊘ d.a0) (neg two ⊘ d.a0) (one ⊘ d.a0) d.a1 d.a2

-- ---- the real pole
unfoldable pub lp_first : Float → FirstOrderRecord
lp_first k =
    let inv = one ⊘ (k ⊕ one) in
    new_first (k ⊗ inv) (k ⊗ inv) ((k ⊖ one) ⊗ inv)

unfoldable pub hp_first : Float → FirstOrderRecord
hp_first k =
    let inv = one ⊘ (k ⊕ one) in
    new_first inv (neg inv) ((k ⊖ one) ⊗ inv)
