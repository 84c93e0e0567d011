-- 01 "Section", "Cascade" and its part of "Forgetting rule", over any float format. Section and FirstOrder: a part. Parts: a sample through
-- the sections. Cascade: the record, and the filter. Coefficients: those of the used parts, and whether they are finite. Plain: its plain
-- filter. Skew and Skewed, which are no part of what is promised: four sections, each one sample behind the section before it.
pub mod Section
pub mod FirstOrder
pub mod Parts
pub mod Cascade
pub mod Coefficients
pub mod Plain
pub mod Skew
pub mod Skewed
