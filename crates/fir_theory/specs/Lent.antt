-- A tap record lent: its taps and its samples are slices, its length, held count and window code are numbers.
use Rattle.std.specs.Prelude.{ℕ, Bool, ◌&&◌, List, eqb, length, Float}
use Rattle.fir_theory.specs.Fir.{TapsRecord}

abbrev pub lent_taps : List Float → List Float → ℕ → ℕ → ℕ → TapsRecord
lent_taps taps samples length held window = record { taps = taps; samples = samples; length = length; held = held; window = window }

-- whether the slices fit the record: each has as many places as the capacity
unfoldable pub fits : ℕ → TapsRecord → Bool
fits capacity r = eqb (length r.taps) capacity && eqb (length r.samples) capacity
