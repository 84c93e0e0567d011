-- The proofs that belong to no one function. Rest: the nearest whole number. Bounds: magnitudes of rounded numbers. Powers: powers of two.
pub mod Rest
pub mod Bounds
pub mod Powers
