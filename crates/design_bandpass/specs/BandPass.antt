-- 000's pole formulas of the band pass, operation by operation in the Rust's order.
use Rattle.std.specs.Prelude.{cond, Float}
use Rattle.std.specs.Float.{binary64}
use Rattle.std.specs.Float.Ieee.{neg, lt, le}
use Rattle.ieee.specs.Sqrt.{sqrt_of}
use Rattle.scalar.specs.Operators.{◌⊕◌, ◌⊖◌, ◌⊗◌, ◌⊘◌}
use Rattle.limits.specs.Zero.{plus_zero}
use Rattle.scalar.specs.Constants.{one, two, half}
use Rattle.scalar.specs.Sign.{abs_of}
use Rattle.cascade_theory.specs.Section.{SectionRecord, new_section}

-- two poles by their sum and product, with the bandwidth bw
unfoldable pub band_biquad : Float → Float → Float → SectionRecord
band_biquad sum product bw =
    let a0 = (one ⊖ sum) ⊕ product in
    new_section (bw ⊘ a0) plus_zero (neg (bw ⊘ a0)) ((neg two ⊕ two ⊗ product) ⊘ a0) (((one ⊕ sum) ⊕ product) ⊘ a0)

-- the pole pair σ ± jω
unfoldable pub bp_biquad : Float → Float → Float → SectionRecord
bp_biquad sigma omega bw = band_biquad (two ⊗ sigma) (sigma ⊗ sigma ⊕ omega ⊗ omega) bw

-- the imaginary part of √D, from D's and √D's real part
unfoldable pub imaginary_root : Float → Float → Float
imaginary_root d_im root_re = cond (lt plus_zero (abs_of d_im)) (d_im ⊘ (two ⊗ root_re)) plus_zero

-- the two sections of a pole pair σ ± jω of the low-pass prototype: poles (bw/2)·s ± √D, D = ((bw/2)·s)² − ω0²
pub record SectionPairRecord : Type 0 where
  pub bq1 : SectionRecord
  pub bq2 : SectionRecord

unfoldable pub bp_pair : Float → Float → Float → Float → SectionPairRecord
bp_pair sigma omega bw w0 =
    let h = bw ⊗ half in
    let p = h ⊗ sigma in
    let q = h ⊗ omega in
    let d_re = (p ⊗ p ⊖ q ⊗ q) ⊖ w0 in
    let d_im = (two ⊗ p) ⊗ q in
    let d_mag = sqrt_of binary64 (d_re ⊗ d_re ⊕ d_im ⊗ d_im) in
    let root_re = sqrt_of binary64 ((d_mag ⊕ d_re) ⊗ half) in
    let root_im = imaginary_root d_im root_re in
    record { bq1 = bp_biquad (p ⊕ root_re) (q ⊕ root_im) bw; bq2 = bp_biquad (p ⊖ root_re) (q ⊖ root_im) bw }

-- the section of the prototype's real pole: two real poles, or a pair
unfoldable pub bp_real : Float → Float → SectionRecord
bp_real bw w0 =
    let h = bw ⊗ half in
    let disc = h ⊗ h ⊖ w0 in
    let s1 = neg h ⊕ sqrt_of binary64 disc in
    let s2 = neg h ⊖ sqrt_of binary64 disc in
    cond (le plus_zero disc) (band_biquad (s1 ⊕ s2) (s1 ⊗ s2) bw) (bp_biquad (neg h) (sqrt_of binary64 (neg disc)) bw)
