-- Worked examples of the definitions.
pub mod Opened
pub mod Table
