-- Copies: elements copied from one list into another. Lists: a list by its places, lists one behind the other, numbers put into a list, and what is said of
-- each element.
pub mod Copies
pub mod Lists
