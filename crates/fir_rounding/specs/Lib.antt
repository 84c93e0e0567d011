-- How far a FIR's answer can be from the exact sum of products.
pub mod Figure
