-- The code's types at f64, read field by field as the records of these definitions.
use Rattle.std.specs.Prelude.{List, map, Float}
use Rattle.std.specs.Float.{binary64}
use Rattle.runs.specs.Runs.{Step, Reset, Block, Fresh}
use Rattle.runs.specs.View as Runs
use Rattle.runs.specs.declared.results.UpdateResult.{UpdateResult}
use Rattle.runs.specs.declared.results.ResetResult.{ResetResult}
use Rattle.runs.specs.declared.results.BlockResult.{BlockResult}
use Rattle.sections.specs.View.{section_view, first_view}
use Rattle.cascade_theory.specs.Cascade.{CascadeRecord, cascade}
use Rattle.cascade.specs.declared.Cascade.{Cascade}

abbrev pub cascade_view : Cascade → CascadeRecord
cascade_view c = record {
  sections = map section_view c.sections;
  count = c.count;
  first = first_view c.first;
  has_first = c.has_first;
  clouded = c.clouded;
}

abbrev pub updated_view : UpdateResult Cascade → Step CascadeRecord
updated_view = Runs.updated_view cascade_view

abbrev pub reset_view : ResetResult Cascade → Reset CascadeRecord
reset_view = Runs.reset_view cascade_view

-- with the output after it
abbrev pub block_view : BlockResult Cascade → List Float → Block CascadeRecord
block_view = Runs.block_view cascade_view

-- a fresh cascade at f64
abbrev pub FreshCascade : CascadeRecord → Type 0
FreshCascade c = Fresh (cascade binary64) c
