-- Whole: integers as differences of natural numbers. Distance: how far one is off another. Values: finite values of a format as whole numbers. Arrays: the
-- numbers of an array are such values. Rounding: how far a rounded number is off the exact one. Operations: the same of sums and products.
pub mod Whole
pub mod Distance
pub mod Values
pub mod Arrays
pub mod Rounding
pub mod Operations
