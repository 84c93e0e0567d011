-- A record that holds no sample yet is fresh, so ready-made taps are, and so is what an accepted reset returns.
use mathlib.Core.Path.{◌≡◌, refl}
use mathlib.Core.Bool.{Bool, true, false, cond}
use mathlib.Core.List.{List}
use Prim.Native.Nat.{ℕ, ◌<◌, ◌≤◌}
use native.Mathlib.Omega.{arith}
use lib.ListN.{length}
use lib.Ieee.{Float, Format}
use borrow.Author.Tests.{le-leb}
use Rattle.runs.specs.Refusals.{invalid_order, no_refusal, order_refused}
use Rattle.runs.specs.Runs.{Fresh, reset}
use Rattle.runs.proofs.Laws.{good-order, reset-fresh}
use Rattle.fir_theory.proofs.Laws.{check-cleared}
use Rattle.fir_theory.specs.Fir.{TapsRecord, ready_made, check_taps, cleared_taps, blank_taps, fir, holding, from_coeffs, FirDesignRecord}

module _ (capacity : ℕ) (f : Format) where
  pub holding-fresh : (ts : List Float) (window : ℕ) → 0 < length ts → length ts ≤ capacity → window ≤ ready_made
      → Fresh (fir capacity f) (holding capacity ts window)
  unfolding check_taps cleared_taps holding
  holding-fresh ts window h k w = record {
    checked = rw (
      le-leb 1 (length ts) (omega arith),
      le-leb (length ts) capacity k,
      le-leb 0 (length ts) (omega arith),
      le-leb window ready_made w,
    );
    cleared = refl;
  }

  pub ready-made-fresh : (ts : List Float) → (from_coeffs capacity ts).refusal ≡ 0 → Fresh (fir capacity f) (from_coeffs capacity ts).filter
  unfolding from_coeffs
  ready-made-fresh ts = go (order_refused (length ts) capacity) refl
    where
      made : Bool → FirDesignRecord
      made b = cond b (record { refusal = invalid_order; filter = blank_taps capacity })
          (record { refusal = no_refusal; filter = holding capacity ts ready_made })

      go : (b : Bool) → order_refused (length ts) capacity ≡ b → (made b).refusal ≡ 0 → Fresh (fir capacity f) (made b).filter
      go true e r = absurd (one r)
        where
          one : ◌≡◌ {A = ℕ} 1 0 → ⊥
          one e = omega arith
      go false e r = let p = good-order (length ts) capacity e in holding-fresh ts ready_made p.0 p.1 (omega arith)

  pub reset-makes-fresh : (r : TapsRecord) → (reset (fir capacity f) r).refusal ≡ 0 → Fresh (fir capacity f) (reset (fir capacity f) r).state
  unfolding cleared_taps
  reset-makes-fresh r = reset-fresh (fir capacity f) r (λ e. omega arith) (λ h. record { checked = check-cleared capacity r h; cleared = refl })
