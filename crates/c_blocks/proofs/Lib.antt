-- The proofs that belong to no one function. Laws: what a call of a lent record shows where it returns. Written: a record that is read from the slices, run
-- by value, and written back. Taps: a tap record, which is changed where it stands. InPlace: the parts of a block in place.
pub mod Laws
pub mod Written
pub mod Taps
pub mod InPlace
