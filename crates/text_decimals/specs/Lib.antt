-- PROTOCOL.md: counts and decimals as they are written. All over bytes.
pub mod Decimals
