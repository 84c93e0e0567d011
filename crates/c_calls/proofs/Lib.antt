-- The proofs that belong to no one function: what a call shows where it returns.
pub mod Laws
pub mod Lists
pub mod Back
