-- The proofs that belong to no one function. Taps: the loops over the taps. Fresh: that every accepted FIR design is fresh. OneTap:
-- that one tap with any window but Rectangular is a NaN.
pub mod Taps
pub mod Fresh
pub mod OneTap
