-- Laws: a pass in place, in either direction. Dropout: what a NaN among the samples does to a pass.
pub mod Laws
pub mod Dropout
