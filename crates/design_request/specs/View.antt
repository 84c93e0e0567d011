-- The code's types, case by case.
use Rattle.std.specs.Prelude.{Bool, Result, Ok, Err}
use Rattle.runs.specs.Refusals.{no_refusal}
use Rattle.runs.specs.View.{number}
use Rattle.runs.specs.declared.refusal.Refusal.{Refusal}
use Rattle.cascade_theory.specs.Coefficients.{finite_coefficients}
use Rattle.cascade.specs.View.{cascade_view}
use Rattle.fir_theory.specs.Fir.{finite_taps}
use Rattle.fir.specs.View.{taps_view}
use Rattle.design_cascade.specs.Design.{accepted}
use Rattle.design_request.specs.Request.{DesignRecord, of_cascade, of_taps, refused_design, design_of, design_by_default}
use Rattle.design_request.specs.declared.DesignRequest.{DesignRequest}
use Rattle.design_request.specs.declared.Designed.{Designed}
use Rattle.design_request.specs.declared.Designed.TheVariants.{Cascade, Fir}
use Rattle.design_request.specs.declared.Form.{Form}
use Rattle.design_request.specs.declared.Form.TheVariants.{Default, Raw}

-- whether the coefficients of the record that was designed are all finite
abbrev pub finite_in : Designed → Bool
finite_in (Cascade c) = finite_coefficients (cascade_view c)
finite_in (Fir r) = finite_taps (taps_view r)

-- the record that was designed, with the other one blank, or the number that refuses with both blank
abbrev pub designed_view : Result Designed Refusal → DesignRecord
designed_view (Ok (Cascade c)) = of_cascade (accepted (cascade_view c))
designed_view (Ok (Fir r)) = of_taps (record { refusal = no_refusal; filter = taps_view r })
designed_view (Err r) = refused_design (number r)

-- in a form
abbrev pub design_in : Form → DesignRequest → DesignRecord
design_in Default request = design_by_default (design_of request)
design_in Raw request = design_of request
