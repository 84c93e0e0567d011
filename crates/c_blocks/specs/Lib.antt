-- What a call of a lent record shows, and what it leaves in the slices. It is no part of what the C interface promises.
pub mod Lent
