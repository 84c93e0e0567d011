-- What a design call shows where it returns.
use mathlib.Core.Path.{◌≡◌, refl, sym, ap, ◌∙◌}
use mathlib.Core.Bool.{Bool, true, false, not}
use mathlib.Core.List.{List, [], ◌∷◌, ◌++◌}
use Rattle.std.specs.Prelude.{Result, Ok, Err, replicate}
use native.Mathlib.Omega.{arith}
use Prim.Native.Nat.{ℕ, zero, suc, ◌<◌, ◌-◌}
use lib.Dec.{eqb}
use lib.ListN.{length}
use lib.Seq.{take-append_seam}
use lib.Ieee.{Float}
use borrow.Author.Tests.{eq-eqb, eqb-true, ne_eqb, lt-leb}
use Rattle.lists.proofs.Tests.{both}
use Rattle.limits.specs.Limits.{max_taps}
use Rattle.limits.specs.Zero.{plus_zero}
use Rattle.runs.specs.Refusals.{no_refusal, invalid_order, bad_call, non_finite_coefficient, order_refused}
use Rattle.runs.specs.Runs.{not_all_finite}
use Rattle.runs.specs.Default.{by_default}
use Rattle.runs.specs.View.{number, refusal_in}
use Rattle.fir_theory.specs.Fir.{FirDesignRecord, blackman, ready_made, zeros, finite_taps, holding, from_coeffs, taps_by_default}
use Rattle.runs.specs.declared.refusal.Refusal.{Refusal}
use Rattle.runs.specs.declared.refusal.Refusal.TheVariants.{BadCall}
use Rattle.design_fir.specs.Fir as Windows
use Rattle.design_fir.specs.declared.WindowType.{WindowType}
use Rattle.design_cascade.specs.Design.{CascadeDesignRecord}
use Rattle.c_layout.specs.Layout.{count_places, cascade_places, cascade_numbers, cascade_counts}
use Rattle.c_calls.specs.Kinds.{taps_counts}
use Rattle.c_calls.proofs.Laws.{numbered}
use Rattle.c_calls.specs.Calls.{StoredRecord, not_stored}
use Rattle.c_designs.specs.Designs.{TapsStoredRecord, design_call, taps_unchanged, taps_places, made_call, fir_call}

-- the lengths of slices that have the places of a tap record
pub taps-lengths : (ts ss : List Float) (cs : List ℕ) → taps_places ts ss cs ≡ true
    → (length ts ≡ max_taps) × (length ss ≡ max_taps) × (length cs ≡ count_places)
unfolding taps_places
taps-lengths ts ss cs h =
    let p = both (eqb (length ts) max_taps) _ h in
    let q = both (eqb (length ss) max_taps) _ p.1 in
    (eqb-true _ _ p.0, eqb-true _ _ q.0, eqb-true _ _ q.1)

-- ---- designs
module _ (d : CascadeDesignRecord) (ns : List Float) (cs : List ℕ) where
  pub design-unfit : cascade_places ns cs ≡ false → not_stored ns cs bad_call ≡ design_call d ns cs
  unfolding design_call
  design-unfit h = rw h

  pub design-refused : cascade_places ns cs ≡ true → (d.refusal ≡ 0 → ⊥) → not_stored ns cs d.refusal ≡ design_call d ns cs
  unfolding design_call
  design-refused h k = rw (h, ne_eqb d.refusal 0 k)

  pub design-accepted : {ns' : List Float} {cs' : List ℕ} → cascade_places ns cs ≡ true → d.refusal ≡ 0 → ns' ≡ cascade_numbers d.cascade → cs'
      ≡ cascade_counts d.cascade
      → ◌≡◌ {A = StoredRecord} (record { refusal = no_refusal; numbers = ns'; counts = cs' }) (design_call d ns cs)
  unfolding design_call
  design-accepted h k en ec = rw (h, eq-eqb d.refusal 0 k, en, ec)

module _ (m : FirDesignRecord) (ts ss : List Float) (cs : List ℕ) where
  pub made-unfit : taps_places ts ss cs ≡ false → taps_unchanged ts ss cs bad_call ≡ made_call ts ss cs m
  unfolding made_call
  made-unfit h = rw h

  pub made-refused : taps_places ts ss cs ≡ true → (m.refusal ≡ 0 → ⊥) → taps_unchanged ts ss cs m.refusal ≡ made_call ts ss cs m
  unfolding made_call
  made-refused h k = rw (h, ne_eqb m.refusal 0 k)

  pub made-accepted : {ts' ss' : List Float} {cs' : List ℕ} → taps_places ts ss cs ≡ true → m.refusal ≡ 0 → ts' ≡ m.filter.taps → ss' ≡ m.filter.samples
      → cs' ≡ taps_counts m.filter
      → ◌≡◌ {A = TapsStoredRecord} (record { refusal = no_refusal; taps = ts'; samples = ss'; counts = cs' }) (made_call ts ss cs m)
  unfolding made_call
  made-accepted h k et es ec = rw (h, eq-eqb m.refusal 0 k, et, es, ec)

-- ---- ready-made taps
module _ (ts l s : List Float) (cs : List ℕ) (places : taps_places l s cs ≡ true) where
  -- refused by 1, also by default
  pub coeffs-refused : order_refused (length ts) max_taps ≡ true → taps_unchanged l s cs invalid_order ≡ made_call l s cs (from_coeffs max_taps ts)
  unfolding made_call from_coeffs
  coeffs-refused h = rw (places, h) refl

  pub coeffs-refused-default : order_refused (length ts) max_taps ≡ true
      → taps_unchanged l s cs invalid_order ≡ made_call l s cs (taps_by_default max_taps (from_coeffs max_taps ts))
  unfolding made_call from_coeffs by_default
  coeffs-refused-default h = rw (places, h) refl

  pub coeffs-accepted : {l' s' : List Float} {cs' : List ℕ} → order_refused (length ts) max_taps ≡ false
      → l' ≡ ts ++ replicate (max_taps - length ts) plus_zero → s' ≡ zeros max_taps → cs' ≡ length ts ∷ 0 ∷ ready_made ∷ []
      → ◌≡◌ {A = TapsStoredRecord} (record { refusal = no_refusal; taps = l'; samples = s'; counts = cs' }) (made_call l s cs (from_coeffs max_taps ts))
  unfolding made_call from_coeffs holding taps_counts
  coeffs-accepted h el es ec = rw (places, h, el, es, ec) refl

  -- whether the taps of the record are finite
  finite-coeffs : {b : Bool} → not_all_finite ts ≡ b → finite_taps (holding max_taps ts ready_made) ≡ not b
  unfolding finite_taps holding
  finite-coeffs e = rw (take-append_seam ts _, e) refl

  pub coeffs-default : order_refused (length ts) max_taps ≡ false → not_all_finite ts ≡ false
      → taps_by_default max_taps (from_coeffs max_taps ts) ≡ from_coeffs max_taps ts
  unfolding from_coeffs by_default
  coeffs-default h e = rw (h, finite-coeffs e) refl

  pub coeffs-not-finite : order_refused (length ts) max_taps ≡ false → not_all_finite ts ≡ true
      → taps_unchanged l s cs non_finite_coefficient ≡ made_call l s cs (taps_by_default max_taps (from_coeffs max_taps ts))
  unfolding made_call from_coeffs by_default
  coeffs-not-finite h e = rw (places, h, finite-coeffs e) refl

uncoded : (code : ℕ) → blackman < code → Windows.window_of code ≡ Err BadCall
uncoded code h = rw (
  ne_eqb code 0 (λ z. omega (arith, z, h)),
  ne_eqb code 1 (λ z. omega (arith, z, h)),
  ne_eqb code 2 (λ z. omega (arith, z, h)),
  ne_eqb code 3 (λ z. omega (arith, z, h)),
) refl

window_in : Result WindowType Refusal → WindowType
window_in (Ok w) = w
window_in (Err e) = WindowType.Blackman

refusals-agree : {r s : Result WindowType Refusal} → r ≡ s → refusal_in r ≡ refusal_in s
refusals-agree e = ap refusal_in e

-- ---- a FIR design by the window's code
module _ (made : WindowType → FirDesignRecord) (ts ss : List Float) (cs : List ℕ) where
  -- a code that no window has refuses the call
  pub code-refused : (code : ℕ) (e : Refusal) → Windows.window_of code ≡ Err e → taps_unchanged ts ss cs (number e) ≡ fir_call ts ss cs made code
  unfolding fir_call
  code-refused zero e h = absurd (numbered e (sym (refusals-agree h)))
  code-refused (suc zero) e h = absurd (numbered e (sym (refusals-agree h)))
  code-refused (suc (suc zero)) e h = absurd (numbered e (sym (refusals-agree h)))
  code-refused (suc (suc (suc zero))) e h = absurd (numbered e (sym (refusals-agree h)))
  code-refused (suc (suc (suc (suc n)))) e h =
      rw (lt-leb (suc (suc (suc (suc n)))) blackman (omega arith))
      (ap (taps_unchanged ts ss cs) (refusals-agree (sym h ∙ uncoded (suc (suc (suc (suc n)))) (omega arith))))

  -- and one that a window has makes its design
  pub code-designed : (code : ℕ) (w : WindowType) → Windows.window_of code ≡ Ok w → made_call ts ss cs (made w) ≡ fir_call ts ss cs made code
  unfolding fir_call window_in
  code-designed zero w h = ap (λ r. made_call ts ss cs (made (window_in r))) (sym h)
  code-designed (suc zero) w h = ap (λ r. made_call ts ss cs (made (window_in r))) (sym h)
  code-designed (suc (suc zero)) w h = ap (λ r. made_call ts ss cs (made (window_in r))) (sym h)
  code-designed (suc (suc (suc zero))) w h = ap (λ r. made_call ts ss cs (made (window_in r))) (sym h)
  code-designed (suc (suc (suc (suc n)))) w h =
      absurd (numbered BadCall (refusals-agree (sym (uncoded (suc (suc (suc (suc n)))) (omega arith)) ∙ h)))
