-- The proofs that belong to no one function.
-- Rounding to nearest, for every format: Grid, Fractions, Roots; that it determines its result: Unique, Determined; where it overflows: Overflow.
-- The operations of `lib.Ieee`: Arithmetic, and `sqrt_of`: Model. The steps of `sqrt`: Steps, Halves, Patterns.
pub mod Grid
pub mod Roots
pub mod Fractions
pub mod Unique
pub mod Determined
pub mod Model
pub mod Overflow
pub mod Arithmetic
mod Steps
mod Halves
pub mod Patterns
