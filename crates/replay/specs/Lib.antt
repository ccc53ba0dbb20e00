-- The replay of a list of calls with answers.
pub mod Runs
