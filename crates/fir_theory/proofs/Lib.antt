-- Laws: loops over taps and samples, the check, and what a step and a reset return. Fresh: records that hold no sample. Forgetting: the
-- forgetting rule. Sums, Counts, Full, Line and Long: a long block.
pub mod Laws
pub mod Fresh
pub mod Forgetting
pub mod Sums
pub mod Counts
pub mod Full
pub mod Line
pub mod Long
