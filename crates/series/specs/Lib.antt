-- What the contracts of `series` say, from 01 "Elementary functions" and 02's Q-4.
pub mod Series
