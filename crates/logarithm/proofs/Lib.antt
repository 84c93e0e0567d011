-- The proofs that belong to no one function. Digits: x = m * 2 ^ e. Words: the machine's signed numbers. Positive: what the tests leave.
pub mod Digits
pub mod Words
pub mod Positive
