-- The proofs that belong to no one function. Values: one value is written in one way. Signs: the absolute value and the finite numbers, and NaN. NaN:
-- arithmetic with one, and std's constants.
pub mod Values
pub mod Signs
pub mod NaN
