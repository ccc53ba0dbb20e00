-- What the calls are handed and lent, and their checks.
pub mod LadderChecks
pub mod GridChecks
pub mod Slices
