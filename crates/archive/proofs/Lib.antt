-- The archive reads what the fit saw. Other crates' proofs cite it as Rattle.archive.proofs.NAME.
pub mod RunLaws
pub mod EndLaws
pub mod ReadLaws
pub mod ArchiveLaws
pub mod Examples
