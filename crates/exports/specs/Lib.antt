-- What the contract of `exports` says.
pub mod Numbered
