-- The proofs that belong to no one function. Laws: a number that no function has.
pub mod Laws
