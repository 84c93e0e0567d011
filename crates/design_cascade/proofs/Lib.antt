-- The proofs that belong to no one function. Places: sections put into their places one after the other. Laws: what a design shows where it returns.
-- Fresh: that every accepted cascade design is fresh.
pub mod Places
pub mod Laws
pub mod Fresh
