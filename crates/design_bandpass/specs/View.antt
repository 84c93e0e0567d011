-- What the code returns, read as the record of these definitions.
use Rattle.sections.specs.View.{section_view}
use Rattle.sections.specs.declared.section.Section.{Section}
use Rattle.design_bandpass.specs.BandPass.{SectionPairRecord}

abbrev pub pair_view : (Section × Section) → SectionPairRecord
pair_view p = record { bq1 = section_view p.0; bq2 = section_view p.1 }
