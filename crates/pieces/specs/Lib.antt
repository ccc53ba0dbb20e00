-- A spacing by a bool, what is found by a bool, and tables by their lists.
pub mod Metrics
pub mod Lent
pub mod Fits
