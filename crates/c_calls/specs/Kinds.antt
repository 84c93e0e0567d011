-- How a tap record stands in slices that a caller lends, and what the two kinds of record have in common.
use Rattle.std.specs.Prelude.{ℕ, Bool, ◌&&◌, List, [], ◌∷◌, eqb, length, get_or, Float}
use Rattle.std.specs.Float.{binary64}
use Rattle.runs.specs.Runs.{Filter}
use Rattle.cascade_theory.specs.Cascade.{cascade}
use Rattle.c_layout.specs.Layout.{count_places, cascade_at, cascade_numbers, cascade_counts, cascade_fits}
use Rattle.fir_theory.specs.Fir.{TapsRecord, fir}
use Rattle.limits.specs.Limits.{max_taps}
use Rattle.fir_theory.specs.Lent.{lent_taps, fits}

-- ---- a tap record: taps, samples and counts, which are the length, the held count and the window code

unfoldable pub taps_at : List Float → List Float → List ℕ → TapsRecord
taps_at taps samples counts = lent_taps taps samples (get_or counts 0 0) (get_or counts 1 0) (get_or counts 2 0)

unfoldable pub taps_counts : TapsRecord → List ℕ
taps_counts r = r.length ∷ r.held ∷ r.window ∷ []

unfoldable pub taps_fit : List Float → List Float → List ℕ → Bool
taps_fit taps samples counts = eqb (length counts) count_places && fits max_taps (taps_at taps samples counts)

-- ---- either kind: its filter, and how a record stands in the two slices that a call may change
pub record Kind : Type 1 where
  pub filter : Filter
  pub fit : List Float → List ℕ → Bool
  pub read : List Float → List ℕ → filter.State
  pub numbers : filter.State → List Float
  pub counts : filter.State → List ℕ

abbrev pub cascade_kind : Kind
cascade_kind = record { filter = cascade binary64; fit = cascade_fits; read = cascade_at; numbers = cascade_numbers; counts = cascade_counts }

-- with these taps, which no call changes
abbrev pub fir_kind : List Float → Kind
fir_kind taps = record { filter = fir max_taps binary64; fit = taps_fit taps; read = taps_at taps; numbers = λ r. r.samples; counts = taps_counts }
