-- The pole formulas of 000 and 001 for low and high passes, and the code's types read as their records.
pub mod Butterworth
pub mod Chebyshev
pub mod View
