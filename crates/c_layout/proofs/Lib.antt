-- The proofs that belong to no one function. Rows: a cascade's numbers in rows of a section each, and what an array's `map` gives. Laws: what slices hold.
pub mod Rows
pub mod Laws
