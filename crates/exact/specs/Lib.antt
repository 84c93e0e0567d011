-- Exact values of floats, over any format.
pub mod Scaled
