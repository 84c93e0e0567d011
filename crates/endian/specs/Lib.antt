-- Endian: whole numbers as bytes, low byte first.
pub mod Endian
