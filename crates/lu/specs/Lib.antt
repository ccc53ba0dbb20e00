-- LU without pivoting of a band matrix, and the substitutions. All widths together; half-width 2 with what it carries.
pub mod BandLu
pub mod BelowPivot
pub mod Narrow
pub mod Textbook
