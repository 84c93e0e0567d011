-- The code's types at f64, read field by field as the records of these definitions.
use Rattle.cascade_theory.specs.Section.{SectionRecord}
use Rattle.cascade_theory.specs.FirstOrder.{FirstOrderRecord}
use Rattle.sections.specs.declared.section.Section.{Section}
use Rattle.sections.specs.declared.first_order.FirstOrder.{FirstOrder}

abbrev pub section_view : Section → SectionRecord
section_view s = record { b0 = s.b0; b1 = s.b1; b2 = s.b2; a1 = s.a1; a2 = s.a2; w1 = s.w1; w2 = s.w2 }

abbrev pub first_view : FirstOrder → FirstOrderRecord
first_view p = record { b0 = p.b0; b1 = p.b1; a1 = p.a1; w = p.w }
