-- Laws that belong to no one function. `CholeskyLaws` and `SolvedLaws` are the textbook's equations; other crates cite them as Rattle.cholesky.proofs.NAME.
pub mod Lengths
pub mod Loops
pub mod CholeskyLaws
pub mod CarriedLaws
pub mod Examples
pub mod TogetherLaws
pub mod SolvedLaws
