-- The proofs that belong to no one function. Digits: what digits write. Powers: the table of the powers of ten. Decimals: the division of the
-- two, and that it gives the nearest double.
pub mod Digits
pub mod Powers
pub mod Decimals
