-- What is claimed of numbers. Ieee: IEEE 754. Exact: exact values. Elementary: 01's "nearest", m and e of ln, and the constants. Decimals: decimals in
-- request lines.
pub mod Ieee
pub mod Exact
pub mod Elementary
pub mod Decimals
