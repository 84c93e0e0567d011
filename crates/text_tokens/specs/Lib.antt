-- PROTOCOL.md: tokens of a line. All over bytes.
pub mod Tokens
