-- Overwriting: loops that write one place after the other. Folding: loops that go through a list once. Places: a list by its places.
-- Joined: lists one behind the other. Table: a rule of all entries of a table. Each: what holds of each element. Tests: `&&` and `||`.
pub mod Overwriting
pub mod Folding
pub mod Places
pub mod Joined
pub mod Table
pub mod Each
pub mod Tests
