-- `claims::c_made_filters_are_fresh` meets its contract: what was written is read back.
use mathlib.Core.Path.{◌≡◌, refl, sym, ap, ap₂, ◌∙◌}
use mathlib.Core.Bool.{Bool, true, false, cond}
use mathlib.Core.List.{List, [], ◌∷◌}
use Prim.Native.Nat.{ℕ, zero, suc, ◌/◌, ◌≤◌}
use native.Mathlib.Omega.{arith}
use lib.Dec.{eqb, leb}
use lib.ListN.{length, length-append, length-replicate}
use lib.Ieee.{Float, binary64}
use borrow.Author.Tests.{eqb-true, eqb-false}
use Rattle.runs.specs.Refusals.{no_refusal, invalid_order, bad_call, order_refused}
use Rattle.runs.proofs.Default.{of_either}
use Rattle.limits.specs.Zero.{plus_zero}
use Rattle.cascade_theory.specs.Section.{SectionRecord}
use Rattle.cascade_theory.specs.Cascade.{CascadeRecord}
use Rattle.cascade.specs.View.{FreshCascade}
use Rattle.fir_theory.specs.Fir.{FirDesignRecord, ready_made, blackman, blank_taps, holding, from_coeffs, taps_by_default}
use Rattle.limits.specs.Limits.{max_sections, max_taps}
use Rattle.fir_theory.specs.Lent.{fits}
use Rattle.fir_theory.proofs.Laws.{sizes, lengths-fit}
use Rattle.fir_theory.proofs.Fresh.{ready-made-fresh}
use Rattle.fir.specs.View.{FreshTaps}
use Rattle.scalar.specs.Operators.{◌⊖◌, ◌⊗◌}
use Rattle.design_checks.specs.Checks.{validate_params, validate_chebyshev, validate_band, validate_fir}
use Rattle.lists.specs.Lists.{up_to}
use Rattle.design_fir.specs.Fir.{code_of, fir_taps, fir_lp}
use Rattle.design_fir.specs.declared.WindowType.{WindowType}
use Rattle.design_fir.proofs.Fresh.{fir-fresh}
use Rattle.design_cascade.specs.Design.{CascadeDesignRecord, padded, unless_refused, accepted, refused_design, cascade_by_default}
use Rattle.design_cascade.specs.Butterworth.{warped}
use Rattle.design_cascade.specs.Chebyshev.{cheb1_prototype, cheb2_prototype}
use Rattle.design_cascade.specs.Prototype.{pair_of, prototype_cascade}
use Rattle.design_cascade.specs.declared.prototype.Prototype.{Prototype}
use Rattle.design_cascade.specs.declared.prototype.Prototype.TheVariants.{ButterworthLow, ButterworthHigh}
use Rattle.design_cascade.specs.LowPass.{butterworth_lp, butterworth_hp, chebyshev1_lp, chebyshev2_lp}
use Rattle.design_cascade.specs.BandPass.{bp_sections, bp_cascade, butterworth_bp}
use Rattle.design_cascade.proofs.Fresh.{butterworth-lp-fresh, butterworth-hp-fresh, chebyshev1-fresh, chebyshev2-fresh, bandpass-fresh}
use Rattle.c_layout.specs.Layout.{cascade_at, cascade_places, cascade_fits, cascade_numbers, cascade_counts}
use Rattle.c_calls.specs.Kinds.{taps_at, taps_counts, taps_fit}
use Rattle.c_calls.specs.Calls.{StoredRecord, not_stored}
use Rattle.c_designs.specs.Designs.{design_call, TapsStoredRecord, taps_places, taps_unchanged, made_call, fir_call, window_of}
use Rattle.c_calls.proofs.Back.{cascade-back, taps-back}
use Rattle.claims.specs.Fresh.{CascadeMade, TapsMade, CascadeIsMade, TapsAreMade}
use Rattle.claims.proofs.Forms.{taps-raw, cascade-fresh, taps-fresh}
use Rattle.claims.proofs.c_made_filters_are_fresh.Goals as goal

-- one number for two outcomes
accepted-bad : no_refusal ≡ bad_call → ⊥
accepted-bad e = omega arith

order-accepted : invalid_order ≡ no_refusal → ⊥
order-accepted e = omega arith

-- ---- cascades

-- a design whose cascade has as many sections as there are places
cascade-made : (d : CascadeDesignRecord) → length d.cascade.sections ≡ max_sections → (d.refusal ≡ 0 → FreshCascade d.cascade) → CascadeMade d
unfolding design_call
cascade-made d four fresh numbers numbers' counts counts' e = go (cascade_places numbers counts) (eqb d.refusal 0) refl refl
  where
    done : Bool → Bool → StoredRecord
    done a b =
        cond a (cond b (record { refusal = no_refusal; numbers = cascade_numbers d.cascade; counts = cascade_counts d.cascade })
        (not_stored numbers counts d.refusal))
        (not_stored numbers counts bad_call)

    go : (a b : Bool) → cascade_places numbers counts ≡ a → eqb d.refusal 0 ≡ b → (cascade_fits numbers' counts' ≡ true)
        × FreshCascade (cascade_at numbers' counts')
    go false b p q = absurd (accepted-bad (ap (λ (z : StoredRecord). z.refusal) (e ∙ ap₂ done p q)))
    go true false p q = absurd (eqb-false d.refusal 0 q (sym (ap (λ (z : StoredRecord). z.refusal) (e ∙ ap₂ done p q))))
    go true true p q =
        let z = e ∙ ap₂ done p q in
        let back = cascade-back d.cascade four in
        let en : numbers' ≡ cascade_numbers d.cascade = ap (λ (s : StoredRecord). s.numbers) z in
        let ec : counts' ≡ cascade_counts d.cascade = ap (λ (s : StoredRecord). s.counts) z in
        (ap₂ cascade_fits en ec ∙ back.1, rw (en, ec, back.0) (fresh (eqb-true d.refusal 0 q)))

-- in both forms: what is refused by 25 is blank, and has as many sections too
cascade-is-made : (d : CascadeDesignRecord) → length d.cascade.sections ≡ max_sections → (d.refusal ≡ 0 → FreshCascade d.cascade) → CascadeIsMade d
cascade-is-made d four fresh = record {
  raw = cascade-made d four fresh;
  by_default = cascade-made (cascade_by_default d) (of_either _ _ _ d (λ (r : CascadeDesignRecord). length r.cascade.sections ≡ max_sections) four refl)
      (cascade-fresh d fresh).by_default;
}

padded-length : (p : ℕ) (ss : List SectionRecord) → length (padded p ss) ≡ p
unfolding padded
padded-length zero ss = refl
padded-length (suc p) [] = ap suc (padded-length p [])
padded-length (suc p) (s ∷ ss) = ap suc (padded-length p ss)

four-sections : (v : ℕ) (c : CascadeRecord) → length c.sections ≡ max_sections → length (unless_refused v c).cascade.sections ≡ max_sections
four-sections v c h = go (eqb v 0)
  where
    go : (b : Bool) → length (cond b (accepted c) (refused_design v)).cascade.sections ≡ max_sections
    go true = h
    go false = refl

-- the designs of poles, and the band pass
prototype-made : (v : ℕ) (p : Prototype) (n : ℕ) (d : CascadeDesignRecord) → d ≡ unless_refused v (prototype_cascade p n)
    → (d.refusal ≡ 0 → FreshCascade d.cascade) → CascadeIsMade d
unfolding prototype_cascade
prototype-made v p n d e fresh = cascade-is-made d (ap (λ (r : CascadeDesignRecord). length r.cascade.sections) e
    ∙ four-sections v (prototype_cascade p n) (padded-length max_sections (up_to (pair_of p n) (n / 2)))) fresh

band-made : (v n : ℕ) (wl wh : Float) (d : CascadeDesignRecord) → d ≡ unless_refused v (bp_cascade n wl wh) → (d.refusal ≡ 0 → FreshCascade d.cascade)
    → CascadeIsMade d
unfolding bp_cascade
band-made v n wl wh d e fresh = cascade-is-made d (ap (λ (r : CascadeDesignRecord). length r.cascade.sections) e
    ∙ four-sections v (bp_cascade n wl wh) (padded-length max_sections (bp_sections n (wh ⊖ wl) (wl ⊗ wh)))) fresh

-- ---- tap records

holding-fits : (ts : List Float) (w : ℕ) → length ts ≤ max_taps → fits max_taps (holding max_taps ts w) ≡ true
unfolding holding
holding-fits ts w h = lengths-fit max_taps _ (simp (length-append, length-replicate) (omega arith)) (length-replicate max_taps plus_zero)

held-few : (ts : List Float) (w : ℕ) → FreshTaps (holding max_taps ts w) → length ts ≤ max_taps
unfolding holding
held-few ts w f = (sizes max_taps (holding max_taps ts w) f.checked).within

-- a record that was made of some taps
taps-made : (m : FirDesignRecord) (ts : List Float) (w : ℕ) → (m.refusal ≡ 0 → m.filter ≡ holding max_taps ts w) → (m.refusal ≡ 0 → FreshTaps m.filter)
    → TapsMade (λ taps samples counts. made_call taps samples counts m)
unfolding made_call
taps-made m ts w is fresh taps taps' samples samples' counts counts' e = go (taps_places taps samples counts) (eqb m.refusal 0) refl refl
  where
    done : Bool → Bool → TapsStoredRecord
    done a b =
        cond a (cond b (record { refusal = no_refusal; taps = m.filter.taps; samples = m.filter.samples; counts = taps_counts m.filter })
        (taps_unchanged taps samples counts m.refusal))
        (taps_unchanged taps samples counts bad_call)

    go : (a b : Bool) → taps_places taps samples counts ≡ a → eqb m.refusal 0 ≡ b → (taps_fit taps' samples' counts' ≡ true)
        × FreshTaps (taps_at taps' samples' counts')
    go false b p q = absurd (accepted-bad (ap (λ (z : TapsStoredRecord). z.refusal) (e ∙ ap₂ done p q)))
    go true false p q = absurd (eqb-false m.refusal 0 q (sym (ap (λ (z : TapsStoredRecord). z.refusal) (e ∙ ap₂ done p q))))
    go true true p q =
        let z = e ∙ ap₂ done p q in
        let ok = eqb-true m.refusal 0 q in
        let few : length ts ≤ max_taps = held-few ts w (rw (is ok) at (fresh ok)) in
        let fit : fits max_taps m.filter ≡ true = rw (is ok) (holding-fits ts w few) in
        let back = taps-back m.filter.taps m.filter refl fit in
        let et : taps' ≡ m.filter.taps = ap (λ (s : TapsStoredRecord). s.taps) z in
        let es : samples' ≡ m.filter.samples = ap (λ (s : TapsStoredRecord). s.samples) z in
        let ec : counts' ≡ taps_counts m.filter = ap (λ (s : TapsStoredRecord). s.counts) z in
        rw (et, es, ec) (back.1, rw back.0 (fresh ok))

ready-is : (ts : List Float) → (from_coeffs max_taps ts).refusal ≡ 0 → (from_coeffs max_taps ts).filter ≡ holding max_taps ts ready_made
unfolding from_coeffs
ready-is ts = go (order_refused (length ts) max_taps)
  where
    go : (b : Bool) → (let m : FirDesignRecord = cond b (record { refusal = invalid_order; filter = blank_taps max_taps })
        (record { refusal = no_refusal; filter = holding max_taps ts ready_made }) in m.refusal ≡ 0 → m.filter ≡ holding max_taps ts ready_made)
    go true e = absurd (order-accepted e)
    go false e = refl

designed-is : (n : ℕ) (cutoff : Float) (w : WindowType) → (fir_lp n cutoff w).refusal ≡ 0 → (fir_lp n cutoff w).filter
    ≡ holding max_taps (fir_taps w n cutoff) (code_of w)
unfolding fir_lp
designed-is n cutoff w = go (eqb (validate_fir n cutoff) 0) refl
  where
    go : (b : Bool) → eqb (validate_fir n cutoff) 0 ≡ b → (let m : FirDesignRecord = cond b
        (record { refusal = no_refusal; filter = holding max_taps (fir_taps w n cutoff) (code_of w) })
        (record { refusal = validate_fir n cutoff; filter = blank_taps max_taps }) in
        m.refusal ≡ 0 → m.filter ≡ holding max_taps (fir_taps w n cutoff) (code_of w))
    go true e r = refl
    go false e r = absurd (eqb-false (validate_fir n cutoff) 0 e r)

-- a result in both forms
both-made : (m : FirDesignRecord) (ts : List Float) (w : ℕ) → (m.refusal ≡ 0 → m.filter ≡ holding max_taps ts w) → (m.refusal ≡ 0 → FreshTaps m.filter)
    → TapsAreMade (λ form taps samples counts. made_call taps samples counts (form m))
both-made m ts w is fresh = record {
  raw = taps-made m ts w is fresh;
  by_default = taps-made (taps_by_default max_taps m) ts w
      (λ h. let e = taps-raw m h in ap (λ (r : FirDesignRecord). r.filter) e ∙ is (ap (λ (r : FirDesignRecord). r.refusal) (sym e) ∙ h))
      (taps-fresh m fresh).by_default;
}

-- by the window's code
by_code : (made : WindowType → FirDesignRecord) (window : ℕ) → TapsMade (λ taps samples counts. made_call taps samples counts (made (window_of window)))
    → TapsMade (λ taps samples counts. fir_call taps samples counts made window)
unfolding fir_call
by_code made window f taps taps' samples samples' counts counts' e = go (leb window blackman) refl
  where
    called : Bool → TapsStoredRecord
    called b = cond b (made_call taps samples counts (made (window_of window))) (taps_unchanged taps samples counts bad_call)

    go : (b : Bool) → leb window blackman ≡ b → (taps_fit taps' samples' counts' ≡ true) × FreshTaps (taps_at taps' samples' counts')
    go true p = f taps taps' samples samples' counts counts' (e ∙ ap called p)
    go false p = absurd (accepted-bad (ap (λ (z : TapsStoredRecord). z.refusal) (e ∙ ap called p)))

designed-made : (n : ℕ) (cutoff : Float) (window : ℕ) → TapsAreMade (λ form taps samples counts.
    fir_call taps samples counts (λ w. form (fir_lp n cutoff w)) window)
designed-made n cutoff window =
    let w = window_of window in
    let both = both-made (fir_lp n cutoff w) (fir_taps w n cutoff) (code_of w) (designed-is n cutoff w) (fir-fresh n cutoff w) in
    record {
      raw = by_code (fir_lp n cutoff) window both.raw;
      by_default = by_code (λ w. taps_by_default max_taps (fir_lp n cutoff w)) window both.by_default;
    }

pub returns : goal.returns
unfolding butterworth_lp butterworth_hp chebyshev1_lp chebyshev2_lp butterworth_bp
returns c = record {
  low_pass = λ n cutoff rate. prototype-made (validate_params cutoff rate n) (ButterworthLow (warped cutoff rate)) n _ refl
      (butterworth-lp-fresh n cutoff rate);
  high_pass = λ n cutoff rate. prototype-made (validate_params cutoff rate n) (ButterworthHigh (warped cutoff rate)) n _ refl
      (butterworth-hp-fresh n cutoff rate);
  chebyshev_i = λ n cutoff db rate. prototype-made (validate_chebyshev cutoff db rate n) (cheb1_prototype n db (warped cutoff rate)) n _ refl
      (chebyshev1-fresh n cutoff db rate);
  chebyshev_ii = λ n cutoff db rate. prototype-made (validate_chebyshev cutoff db rate n) (cheb2_prototype n db (warped cutoff rate)) n _ refl
      (chebyshev2-fresh n cutoff db rate);
  band_pass = λ n low high rate. band-made (validate_band low high rate n) n (warped low rate) (warped high rate) _ refl (bandpass-fresh n low high rate);
  fir_low_pass = designed-made;
  ready_made = λ coeffs. both-made (from_coeffs max_taps coeffs) coeffs ready_made (ready-is coeffs) (ready-made-fresh max_taps binary64 coeffs);
}
