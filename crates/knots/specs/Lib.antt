-- Parameters of points, and knots from parameters.
pub mod Parameters
pub mod Knots
pub mod Textbook
pub mod Lines
pub mod OnLines
pub mod Calls
