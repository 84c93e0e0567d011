-- The code's cascade and what its calls return at f64, read as the records of cascade_theory and runs.
pub mod View
