-- Kept: what a call on a lent record leaves as it was.
pub mod Kept
