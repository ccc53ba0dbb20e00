-- Band matrices: entries, what functions require of slices, one row of a triangular system. All widths together.
pub mod Bands
pub mod Shapes
pub mod SolvedRow
pub mod Sums
