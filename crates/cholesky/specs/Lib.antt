-- Cholesky's factor of a symmetric band matrix, and the substitutions. All widths together; half-width 3 with what it carries.
pub mod Cholesky
pub mod Carried
pub mod Textbook
pub mod Together
