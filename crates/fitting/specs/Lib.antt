-- Fits of one direction, their marks, demand 3, and the regions that they are made in.
pub mod Within
pub mod Marks
pub mod Tolerance
pub mod Given
pub mod Flat
pub mod Room
pub mod Solves
pub mod Jobs
