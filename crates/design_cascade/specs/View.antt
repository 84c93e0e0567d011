-- What the code returns, read as the records of these definitions.
use Rattle.std.specs.Prelude.{Result, Ok, Err}
use Rattle.runs.specs.View.{number}
use Rattle.runs.specs.declared.refusal.Refusal.{Refusal}
use Rattle.cascade.specs.View.{cascade_view}
use Rattle.cascade.specs.declared.Cascade.{Cascade}
use Rattle.design_cascade.specs.Design.{CascadeDesignRecord, accepted, refused_design}
use Rattle.design_cascade.specs.Chebyshev.{PolePairRecord}
use Rattle.design_cascade.specs.declared.chebyshev.PolePair.{PolePair}

-- 0 and the cascade, or the number of the refusal and the blank cascade
abbrev pub design_view : Result Cascade Refusal → CascadeDesignRecord
design_view (Ok c) = accepted (cascade_view c)
design_view (Err r) = refused_design (number r)

abbrev pub pole_pair_view : PolePair → PolePairRecord
pole_pair_view p = record { sigma = p.sigma; omega = p.omega_im; cos_theta = p.cos_theta }
