-- PROTOCOL.md: floats and bytes as they are written. All over bytes.
pub mod Numbers
pub mod Pairs
