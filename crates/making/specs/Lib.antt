-- What a call makes of a direction, and what it hands out.
pub mod Results
pub mod Runs
pub mod Saving
pub mod HandedOut
