-- Bytes: what one byte and two write, and that reading and writing undo one another.
pub mod Bytes
