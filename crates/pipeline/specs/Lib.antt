-- The code's four sections and lines at f64, read as the records of cascade_theory. They are no part of what is promised.
pub mod View
