-- 002's windowed-sinc low pass, operation by operation in the Rust's order: its windows, its taps, and what it returns.
use Rattle.std.specs.Prelude.{ℕ, ◌-◌, cond, Result, Ok, Err, List, [], ◌∷◌, map, eqb, Float}
use Rattle.std.specs.Float.Ieee.{eq, lt}
use Rattle.scalar.specs.Operators.{◌⊕◌, ◌⊖◌, ◌⊗◌, ◌⊘◌, bits, nat}
use Rattle.limits.specs.Zero.{plus_zero}
use Rattle.scalar.specs.Constants.{one, two, half, pi, epsilon}
use Rattle.scalar.specs.Sign.{abs_of}
use Rattle.elementary.specs.Trigonometric.{sin_of, cos_of}
use Rattle.runs.specs.Refusals.{no_refusal}
use Rattle.runs.specs.declared.refusal.Refusal.{Refusal}
use Rattle.runs.specs.declared.refusal.Refusal.TheVariants.{BadCall}
use Rattle.fir_theory.specs.Fir.{rectangular, hamming, hanning, blackman, FirDesignRecord, holding, refused_taps}
use Rattle.limits.specs.Limits.{max_taps}
use Rattle.design_checks.specs.Checks.{validate_fir}
use Rattle.lists.specs.Lists.{up_to}
use Rattle.design_fir.specs.declared.WindowType.{WindowType}
use Rattle.design_fir.specs.declared.WindowType.TheVariants as window

-- 01's window codes
abbrev pub code_of : WindowType → ℕ
code_of window.Rectangular = rectangular
code_of window.Hamming = hamming
code_of window.Hanning = hanning
code_of window.Blackman = blackman

-- the window of a code; no other code has one
abbrev pub window_of : ℕ → Result WindowType Refusal
window_of n =
    cond (eqb n rectangular) (Ok window.Rectangular)
    (cond (eqb n hamming) (Ok window.Hamming)
    (cond (eqb n hanning) (Ok window.Hanning) (cond (eqb n blackman) (Ok window.Blackman) (Err BadCall))))

-- the weight at i of n places, by 2π: 0.54 − 0.46 × cos, 0.5 × (1 − cos), and (0.42 − 0.5 × cos) + 0.08 × cos of the double, at (2π × i)/(n − 1)
unfoldable pub weight_of : WindowType → Float → Float → Float → Float
weight_of window.Rectangular i n two_pi = one
weight_of window.Hamming i n two_pi = bits 0x3FE147AE147AE148 ⊖ bits 0x3FDD70A3D70A3D71 ⊗ cos_of ((two_pi ⊗ i) ⊘ (n ⊖ one))
weight_of window.Hanning i n two_pi = half ⊗ (one ⊖ cos_of ((two_pi ⊗ i) ⊘ (n ⊖ one)))
weight_of window.Blackman i n two_pi =
    let arg = (two_pi ⊗ i) ⊘ (n ⊖ one) in
    (bits 0x3FDAE147AE147AE1 ⊖ half ⊗ cos_of arg) ⊕ bits 0x3FB47AE147AE147B ⊗ cos_of (two ⊗ arg)

-- the ideal low pass at n from its middle: 2 × cutoff at 0, else sin(((2 × PI) × cutoff) × n)/(PI × n)
unfoldable pub sinc_of : Float → Float → Float
sinc_of cutoff n = cond (eq n plus_zero) (two ⊗ cutoff) (sin_of (((two ⊗ pi) ⊗ cutoff) ⊗ n) ⊘ (pi ⊗ n))

-- tap i of n, its middle being (n − 1) × 0.5
unfoldable pub tap_of : WindowType → ℕ → Float → ℕ → Float
tap_of w n cutoff i = sinc_of cutoff (nat i ⊖ nat (n - 1) ⊗ half) ⊗ weight_of w (nat i) (nat n) (two ⊗ pi)

-- y and the taps added to it one after the other
unfoldable pub total_from : Float → List Float → Float
total_from y [] = y
total_from y (t ∷ ts) = total_from (y ⊕ t) ts

-- taps are divided by their sum only where its magnitude exceeds EPSILON
unfoldable pub normalised_by : Float → List Float → List Float
normalised_by sum ts = cond (lt epsilon (abs_of sum)) (map (λ t. t ⊘ sum) ts) ts

unfoldable pub fir_taps : WindowType → ℕ → Float → List Float
fir_taps w n cutoff =
    let ts = up_to (tap_of w n cutoff) n in
    normalised_by (total_from plus_zero ts) ts

unfoldable pub fir_lp : ℕ → Float → WindowType → FirDesignRecord
fir_lp n cutoff w =
    let v = validate_fir n cutoff in
    cond (eqb v no_refusal) (record { refusal = no_refusal; filter = holding max_taps (fir_taps w n cutoff) (code_of w) }) (refused_taps max_taps v)
