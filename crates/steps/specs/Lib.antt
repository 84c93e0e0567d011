-- Single steps over a whole input.
pub mod Steps
