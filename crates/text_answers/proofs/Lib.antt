-- The proofs that belong to no one function. Texts: digits, and the zeros in front of a count.
pub mod Texts
