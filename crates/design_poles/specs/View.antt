-- The code's type, read field by field.
use Rattle.design_poles.specs.Butterworth.{DenominatorRecord}
use Rattle.design_poles.specs.declared.butterworth.Denominator.{Denominator}

abbrev pub denominator_view : Denominator → DenominatorRecord
denominator_view d = record { a0 = d.a0; a1 = d.a1; a2 = d.a2 }
