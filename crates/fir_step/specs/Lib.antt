-- A lent tap record of the code, read as fir_theory's definitions have it.
pub mod View
