-- The code's sections and first-order parts at f64, read as the records of cascade_theory.
pub mod View
