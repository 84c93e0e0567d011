-- 01's limits, and +0.
pub mod Limits
pub mod Zero
