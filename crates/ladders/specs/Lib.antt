-- The ladder calls and their contracts.
pub mod Ladders
pub mod Standing
