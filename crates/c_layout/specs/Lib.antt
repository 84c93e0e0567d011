-- How a cascade stands in slices of numbers.
pub mod Layout
