-- The laws of spans and basis functions. Other crates' proofs cite them as Rattle.bspline.proofs.NAME.
pub mod SpanLaws
pub mod Recurrence
pub mod ReaderLaws
pub mod CheckLaws
pub mod HoldingLaws
pub mod AgreeLaws
pub mod Examples
mod ZeroLaws
pub mod Book
