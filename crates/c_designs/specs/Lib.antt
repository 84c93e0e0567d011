-- The calls of the C interface that design a filter. Designs: what each returns, and what every slice holds after it.
pub mod Designs
