-- What the functions show where they return.
pub mod Laws
