-- Laws of the design calls.
pub mod Laws
