-- PROTOCOL.md: what an answer is made of. All over bytes.
pub mod Texts
