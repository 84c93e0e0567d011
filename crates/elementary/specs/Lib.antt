-- What the contracts of `elementary` say, from 01 "Elementary functions".
pub mod Whole
pub mod Trigonometric
pub mod Exponential
