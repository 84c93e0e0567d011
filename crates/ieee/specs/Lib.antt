-- What the contracts of `ieee` say.
pub mod Nearest
pub mod Sqrt
pub mod Digits
pub mod Arithmetic
