-- What the contracts of `scalar` say, from 01 "Elementary functions", and the operators and constants that all definitions over floats use.
pub mod Operators
pub mod Constants
pub mod Sign
