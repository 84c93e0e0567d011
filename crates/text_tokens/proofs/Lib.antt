-- The proofs that belong to no one function. Laws: the first token of a line, and all of them.
pub mod Laws
