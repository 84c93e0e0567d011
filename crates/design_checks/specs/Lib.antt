-- What all designs share. Checks: 01's table of refusals, and its order of checks.
pub mod Checks
