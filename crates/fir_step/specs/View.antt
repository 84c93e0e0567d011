-- A tap record lent: its taps and its samples are slices, and its counts stand in a struct.
use Rattle.std.specs.Prelude.{List, Float}
use Rattle.fir_theory.specs.Fir.{TapsRecord}
use Rattle.fir_theory.specs.Lent.{lent_taps}
use Rattle.fir_step.specs.declared.Counts.{Counts}

abbrev pub lent_view : List Float → List Float → Counts → TapsRecord
lent_view taps samples counts = lent_taps taps samples counts.length counts.held counts.window
