-- What each call that designs a filter, or makes one of ready-made taps, returns, and what every slice holds after it. A refused call leaves every slice.
use Rattle.std.specs.Prelude.{ℕ, Bool, ◌&&◌, cond, List, eqb, leb, length, Float}
use Rattle.limits.specs.Limits.{max_taps}
use Rattle.runs.specs.Refusals.{no_refusal, bad_call}
use Rattle.fir_theory.specs.Fir.{FirDesignRecord, blackman}
use Rattle.design_fir.specs.declared.WindowType.{WindowType}
use Rattle.design_cascade.specs.Design.{CascadeDesignRecord}
use Rattle.c_layout.specs.Layout.{count_places, cascade_places, cascade_numbers, cascade_counts}
use Rattle.c_calls.specs.Kinds.{taps_counts}
use Rattle.c_calls.specs.Calls.{StoredRecord, not_stored}

-- ---- a cascade's design into slices
unfoldable pub design_call : CascadeDesignRecord → List Float → List ℕ → StoredRecord
design_call d numbers counts =
    cond (cascade_places numbers counts)
    (cond (eqb d.refusal no_refusal) (record { refusal = no_refusal; numbers = cascade_numbers d.cascade; counts = cascade_counts d.cascade })
    (not_stored numbers counts d.refusal))
    (not_stored numbers counts bad_call)

-- ---- taps, designed or ready-made, into slices

-- the window of a code
abbrev pub window_of : ℕ → WindowType
window_of n = cond (eqb n 0) WindowType.Rectangular (cond (eqb n 1) WindowType.Hamming (cond (eqb n 2) WindowType.Hanning WindowType.Blackman))

pub record TapsStoredRecord : Type 0 where
  pub refusal : ℕ
  pub taps : List Float
  pub samples : List Float
  pub counts : List ℕ

module _ (taps samples : List Float) (counts : List ℕ) where
  abbrev pub taps_unchanged : ℕ → TapsStoredRecord
  taps_unchanged n = record { refusal = n; taps = taps; samples = samples; counts = counts }

  unfoldable pub taps_places : Bool
  taps_places = eqb (length taps) max_taps && (eqb (length samples) max_taps && eqb (length counts) count_places)

  unfoldable pub made_call : FirDesignRecord → TapsStoredRecord
  made_call m =
      cond taps_places
      (cond (eqb m.refusal no_refusal) (record { refusal = no_refusal; taps = m.filter.taps; samples = m.filter.samples; counts = taps_counts m.filter })
      (taps_unchanged m.refusal))
      (taps_unchanged bad_call)

  -- a FIR design, which is made of a window, by the window's code; there is none above Blackman's
  unfoldable pub fir_call : (WindowType → FirDesignRecord) → ℕ → TapsStoredRecord
  fir_call made window = cond (leb window blackman) (made_call (made (window_of window))) (taps_unchanged bad_call)
