-- Calls: lists of calls of the code. Forms: default forms beside raw ones. Rounding: how far a FIR's answer is from the exact sum of products.
pub mod Calls
pub mod Forms
pub mod Rounding
