-- The proofs that belong to no one function. Turns: Horner's loops.
pub mod Turns
