-- The band-pass pole formulas of 000, and the code's type read as their record.
pub mod BandPass
pub mod View
