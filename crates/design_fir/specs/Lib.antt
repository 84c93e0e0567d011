-- The FIR design.
pub mod Fir
