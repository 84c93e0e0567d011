-- The proofs that belong to no one function. Numbers: hexadecimal digits, and the forms of a float.
pub mod Numbers
