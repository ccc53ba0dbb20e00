-- Least squares and interpolation, their steps, and the systems as the books write them.
pub mod LeastSquares
pub mod Steps
pub mod Interpolation
pub mod Through
pub mod Textbook
