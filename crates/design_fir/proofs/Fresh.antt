-- Every accepted FIR design is fresh.
use mathlib.Core.Path.{◌≡◌, refl}
use mathlib.Core.Bool.{Bool, true, false, cond}
use Prim.Native.Nat.{ℕ, ◌≤◌}
use native.Mathlib.Omega.{arith}
use lib.Dec.{eqb}
use lib.Ieee.{Float, binary64}
use borrow.Author.Tests.{eqb-true, eqb-false}
use Rattle.fir_theory.specs.Fir.{ready_made, FirDesignRecord, blank_taps, holding}
use Rattle.limits.specs.Limits.{max_taps}
use Rattle.fir.specs.View.{FreshTaps}
use Rattle.fir_theory.proofs.Fresh.{holding-fresh}
use Rattle.design_checks.specs.Checks.{validate_fir}
use Rattle.design_checks.proofs.Laws.{good-fir}
use Rattle.design_fir.specs.Fir.{code_of, fir_taps, fir_lp}
use Rattle.design_fir.specs.declared.WindowType.{WindowType}
use Rattle.design_fir.specs.declared.WindowType.TheVariants.{Rectangular, Hamming, Hanning, Blackman}
use Rattle.design_fir.proofs.Taps.{taps-length}

code_in : (w : WindowType) → code_of w ≤ ready_made
code_in Rectangular = omega arith
code_in Hamming = omega arith
code_in Hanning = omega arith
code_in Blackman = omega arith

pub fir-fresh : (n : ℕ) (cutoff : Float) (w : WindowType) → (fir_lp n cutoff w).refusal ≡ 0 → FreshTaps (fir_lp n cutoff w).filter
unfolding fir_lp
fir-fresh n cutoff w = go (eqb (validate_fir n cutoff) 0) refl
  where
    made : Bool → FirDesignRecord
    made b = cond b (record { refusal = 0; filter = holding max_taps (fir_taps w n cutoff) (code_of w) })
        (record { refusal = validate_fir n cutoff; filter = blank_taps max_taps })

    go : (b : Bool) → eqb (validate_fir n cutoff) 0 ≡ b → (made b).refusal ≡ 0 → FreshTaps (made b).filter
    go true e r =
        let p = good-fir n cutoff (eqb-true (validate_fir n cutoff) 0 e) in
        let l = taps-length w n cutoff in
        holding-fresh max_taps binary64 (fir_taps w n cutoff) (code_of w) (omega (arith, l, p)) (omega (arith, l, p)) (code_in w)
    go false e r = absurd (eqb-false (validate_fir n cutoff) 0 e r)
