-- The code's types at f64, read field by field as the records of these definitions.
use Rattle.std.specs.Prelude.{List, Float, Result, Ok, Err}
use Rattle.std.specs.Float.{binary64}
use Rattle.runs.specs.Refusals.{no_refusal}
use Rattle.runs.specs.Runs.{Step, Reset, Block, Fresh}
use Rattle.runs.specs.View as Runs
use Rattle.runs.specs.declared.refusal.Refusal.{Refusal}
use Rattle.runs.specs.declared.results.UpdateResult.{UpdateResult}
use Rattle.runs.specs.declared.results.ResetResult.{ResetResult}
use Rattle.runs.specs.declared.results.BlockResult.{BlockResult}
use Rattle.fir_theory.specs.Fir.{TapsRecord, fir, FirDesignRecord, refused_taps}
use Rattle.limits.specs.Limits.{max_taps}
use Rattle.fir_step.specs.declared.Counts.{Counts}
use Rattle.fir.specs.declared.TapRecord.{TapRecord}

abbrev pub taps_view : TapRecord → TapsRecord
taps_view r = record { taps = r.taps; samples = r.samples; length = r.length; held = r.held; window = r.window }

-- the counts of a record that is lent
abbrev pub counts_of : TapRecord → Counts
counts_of r = record { length = r.length; held = r.held; window = r.window }

abbrev pub updated_view : UpdateResult TapRecord → Step TapsRecord
updated_view = Runs.updated_view taps_view

abbrev pub reset_view : ResetResult TapRecord → Reset TapsRecord
reset_view = Runs.reset_view taps_view

-- with the output after it
abbrev pub block_view : BlockResult TapRecord → List Float → Block TapsRecord
block_view = Runs.block_view taps_view

-- what a design and ready-made taps return: the record, or the number that refuses with the blank record
abbrev pub made_view : Result TapRecord Refusal → FirDesignRecord
made_view (Ok r) = record { refusal = no_refusal; filter = taps_view r }
made_view (Err r) = refused_taps max_taps (Runs.number r)

-- a fresh record at f64, with room for as many taps as the code's has
abbrev pub FreshTaps : TapsRecord → Type 0
FreshTaps r = Fresh (fir max_taps binary64) r
