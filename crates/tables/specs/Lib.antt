-- The basis table, the kinds of data, and how far each point lies from a fit.
pub mod BasisTable
pub mod Rows
pub mod Deviations
pub mod Directions
pub mod Layout
pub mod Measures
pub mod Squares
pub mod Textbook
