-- The definitions that the contracts of a round cite.
pub mod Refinement
pub mod Round
