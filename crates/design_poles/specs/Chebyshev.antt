-- 001's pole formulas, operation by operation in the Rust's order.
use Rattle.std.specs.Prelude.{Float}
use Rattle.std.specs.Float.Ieee.{neg}
use Rattle.scalar.specs.Operators.{◌⊕◌, ◌⊖◌, ◌⊗◌, ◌⊘◌}
use Rattle.scalar.specs.Constants.{one, two}
use Rattle.scalar.specs.Sign.{max_zero_of}
use Rattle.cascade_theory.specs.Section.{SectionRecord, new_section}
use Rattle.cascade_theory.specs.FirstOrder.{FirstOrderRecord, new_first}
use Rattle.design_poles.specs.Butterworth.{denominator_of}

-- type I, the pole pair σ ± jω
unfoldable pub cheb1_biquad : Float → Float → Float → SectionRecord
cheb1_biquad sigma omega k =
    let d = denominator_of sigma omega k in
    let b = ((sigma ⊗ sigma ⊕ omega ⊗ omega) ⊗ (k ⊗ k)) ⊘ d.a0 in
    new_section b (two ⊗ b) b d.a1 d.a2

-- type II, the pole pair σ ± jω and the zeros ±jz
unfoldable pub cheb2_biquad : Float → Float → Float → Float → SectionRecord
cheb2_biquad sigma omega z k =
    let d = denominator_of sigma omega k in
    let zz = z ⊗ z in
    let zk = zz ⊗ (k ⊗ k) in
    let r = (sigma ⊗ sigma ⊕ omega ⊗ omega) ⊘ zz in
    let b0 = (r ⊗ (one ⊕ zk)) ⊘ d.a0 in
    new_section b0 (((r ⊗ two) ⊗ (zk ⊖ one)) ⊘ d.a0) b0 d.a1 d.a2

-- both types, the real pole σ: |σ| is max(−σ, 0)
unfoldable pub cheb_first : Float → Float → FirstOrderRecord
cheb_first sigma k =
    let k_abs = k ⊗ max_zero_of (neg sigma) in
    let inv = one ⊘ (one ⊕ k_abs) in
    new_first (k_abs ⊗ inv) (k_abs ⊗ inv) ((k_abs ⊖ one) ⊗ inv)
