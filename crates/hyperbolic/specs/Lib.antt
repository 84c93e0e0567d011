-- What the contracts of `hyperbolic` say, from 01 "Elementary functions" and 02's Q-4.
pub mod Hyperbolic
