-- Demand 3 at f64, of every record that the code can have.
use Rattle.std.specs.Prelude.{List}
use Rattle.std.specs.Float.{binary64}
use Rattle.runs.specs.Forgetting.{Call, run}
use Rattle.cascade_theory.specs.Plain.{CascadeForgets}
use Rattle.cascade_theory.specs.Cascade.{cascade}
use Rattle.cascade.specs.View.{cascade_view}
use Rattle.cascade.specs.declared.Cascade.{Cascade}
use Rattle.fir_theory.specs.Plain.{FirForgets}
use Rattle.fir_theory.specs.Fir.{fir}
use Rattle.limits.specs.Limits.{max_taps}
use Rattle.fir.specs.View.{taps_view}
use Rattle.fir.specs.declared.TapRecord.{TapRecord}

-- every list of steps, blocks and resets that starts at this cascade
pub record CascadeRule (start : Cascade) : Type 0 where
  pub of : (calls : List Call) → CascadeForgets binary64 (cascade_view start) calls (run (cascade binary64) (cascade_view start) calls)

-- and at this tap record
pub record FirRule (start : TapRecord) : Type 0 where
  pub of : (calls : List Call) → FirForgets max_taps binary64 (taps_view start) calls (run (fir max_taps binary64) (taps_view start) calls)
