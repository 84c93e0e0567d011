-- The proofs that belong to no one function. Laws: a design's refusal is its check's number.
pub mod Laws
