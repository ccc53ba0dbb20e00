-- The laws of least squares and interpolation. Other crates' proofs cite them as Rattle.solving.proofs.NAME.
pub mod SquareLaws
pub mod ThroughLaws
pub mod EntryLaws
pub mod SystemLaws
