-- What the contracts of `logarithm` say, from 01 "Elementary functions".
pub mod Logarithm
