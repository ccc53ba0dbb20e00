-- The laws of parameters and knots. Other crates' proofs cite them as Rattle.knots.proofs.NAME.
pub mod ParameterLaws
pub mod SharedLaws
pub mod SpacingLaws
pub mod LineLaws
pub mod KnotLaws
pub mod AveragedLaws
pub mod RunLaws
pub mod CompressedLaws
pub mod StepLaws
pub mod Examples
