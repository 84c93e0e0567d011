-- The proofs that belong to no one function. Laws: what the checks leave.
pub mod Laws
